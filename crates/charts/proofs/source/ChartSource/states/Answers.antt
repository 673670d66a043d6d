use Rattle.std.proofs.Common.{rules}
use Rattle.charts.proofs.Answering.{states_count, few_states}
use Rattle.charts.proofs.source.ChartSource.states.Goals as goal

pub overflow_cast-result : goal.overflow_cast-result
overflow_cast-result c = search (rules, states_count, few_states)
