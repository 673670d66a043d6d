-- What a word of a term says, or why it is refused.
use Rattle.std.specs.Prelude.{ℕ, ◌/◌, ◌%◌, ◌^◌, cond, not, ◌&&◌, Ok, Result, ◌==◌, nat_lt}
use Rattle.words.specs.declared.fault.WordFault.{WordFault}
use Rattle.words.specs.declared.fault.WordFault.TheVariants.{Form, Range}
use Rattle.words.specs.declared.term.Delay.TheVariants.{Constant, Plus, Less}
use Rattle.words.specs.declared.term.Operator.{Operator}
use Rattle.words.specs.declared.term.Operator.TheVariants.{Nil, Prefix, Delay, Sum, Compose, Restrict, Relabel, Refer}
use Rattle.words.specs.Words.{kind, payload, check}

-- the whole payload is unused
abbrev pub bare_in : Operator → ℕ → ℕ → Result Operator WordFault
bare_in found place w = check (payload w == 0) (Form place) (Ok found)

-- a label but the tick
abbrev pub prefix_in : ℕ → ℕ → Result Operator WordFault
prefix_in place w =
    check (nat_lt (payload w) 256) (Form place)
    (check (nat_lt (payload w) 128 && not (payload w == 64)) (Range place) (Ok (Prefix (payload w))))

-- a form, the prefixes between and the seconds; forms 0 to 2 are the seconds, those more, and those fewer
abbrev pub delay_in : ℕ → ℕ → Result Operator WordFault
delay_in place w =
    let form : ℕ = payload w / 2 ^ 26 in
    let between : ℕ = payload w % 2 ^ 26 / 2 ^ 23 in
    let seconds : ℕ = payload w % 2 ^ 23 in
    check (not (form == 0 && not (between == 0))) (Form place)
    (check (nat_lt seconds 4096) (Range place)
    (cond (form == 0) (Ok (Delay (Constant seconds)))
    (cond (form == 1) (Ok (Delay (Plus between seconds)))
    (check (form == 2 && nat_lt 0 seconds) (Range place) (Ok (Delay (Less between seconds)))))))

-- a name
abbrev pub restrict_in : ℕ → ℕ → Result Operator WordFault
restrict_in place w = check (nat_lt (payload w) 64) (Form place) (check (nat_lt 0 (payload w)) (Range place) (Ok (Restrict (payload w))))

-- two names: from, and above it to
abbrev pub relabel_in : ℕ → ℕ → Result Operator WordFault
relabel_in place w =
    let from : ℕ = payload w % 64 in
    let to : ℕ = payload w / 64 in
    check (nat_lt (payload w) 4096) (Form place) (check (nat_lt 0 from && nat_lt 0 to) (Range place) (Ok (Relabel from to)))

abbrev pub operator_in : ℕ → ℕ → Result Operator WordFault
operator_in place w =
    cond (kind w == 0) (bare_in Nil place w)
    (cond (kind w == 1) (prefix_in place w)
    (cond (kind w == 2) (delay_in place w)
    (cond (kind w == 3) (bare_in Sum place w)
    (cond (kind w == 4) (bare_in Compose place w)
    (cond (kind w == 5) (restrict_in place w)
    (cond (kind w == 6) (relabel_in place w)
    (check (kind w == 7) (Form place) (Ok (Refer (payload w))))))))))
