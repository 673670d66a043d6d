use Rattle.std.proofs.Common.{refl}
use Rattle.std.proofs.lemmas.Result.{err_from_is_err_and}
use Rattle.std.proofs.lemmas.Bool.{false≢true}
use Rattle.charts.proofs.FirstFault.{refused_for}
use Rattle.charts.proofs.Placing.{refused, filled}
use Rattle.charts.proofs.chart.Chart.fill.Goals as goal

pub returns-in_err-states : goal.returns-in_err-states
returns-in_err-states c =
    let p = err_from_is_err_and c.from_residual.result c.from_residual.ensures.1 in
    let q = refused c.args.words.now c.in_err-states.field-0.0 c.in_err-states.ensures in
    rw (p.1, p.2) (record { accepted = ((λ h. absurd (false≢true h)), (λ f. absurd (q.1 f))); refused = refused_for c.args.words.now c.in_err-states.field-0.0 q.0; encodes = tt; place = (q.0, refl) })

pub invariant_of-self : goal.invariant_of-self
invariant_of-self c =
    let f = filled c.args.words.now c.refill.new.self c.in_ok-states.states c.in_ok-states.ensures c.refill.ensures in
    record { firsts = f.sound.firsts; counts = f.sound.counts; owned = f.sound.owned; limits = f.encodes.limits }

pub returns : goal.returns
returns c =
    let f = filled c.args.words.now c.refill.new.self c.in_ok-states.states c.in_ok-states.ensures c.refill.ensures in
    record { accepted = ((λ _. (_, f.encodes)), (λ _. refl)); refused = tt; encodes = f.encodes; place = (f.read, f.states, refl) }
