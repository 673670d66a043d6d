use Rattle.words.proofs.Whole.{decoded_exact, decoded_back}
use Rattle.words.proofs.word.decoding_is_exact.Goals as goal

pub returns : goal.returns
returns c = (λ place w x small e. decoded_exact place w x e, decoded_back)
