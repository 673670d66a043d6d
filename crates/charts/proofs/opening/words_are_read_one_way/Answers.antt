use Rattle.charts.proofs.Accepted.{one_way}
use Rattle.charts.proofs.opening.words_are_read_one_way.Goals as goal

pub returns : goal.returns
returns c = one_way
