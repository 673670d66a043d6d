use Rattle.lts.proofs.Bisimilar as bisimilar
use Rattle.lts.proofs.equivalence.strong_equivalence_is_an_equivalence.Goals as goal

pub returns : goal.returns
returns c = record { reflexive = bisimilar.reflexive; symmetric = bisimilar.symmetric; transitive = bisimilar.transitive }
