-- `records::steps::step_of` meets its contract: the cases are those of the definition, and a list that is too long makes no step.
-- Assumes nothing.
use Rattle.std.proofs.Common.{◌≡◌, ◌++◌, List, ℕ, Bool, drop, get_or, replicate, refl, sym, ap₂, ◌∙◌, arith}
use Rattle.std.proofs.Math.Seq.{length-take-le}
use Rattle.std.proofs.lemmas.List.{take_rest}
use Rattle.std.specs.Bool.{then_some}
use Rattle.fields.specs.Bytes.{words_of}
use Rattle.fields.proofs.Bytes.{length-words_of}
use Rattle.rules.specs.declared.Step.{Step}
use Rattle.rules.specs.declared.NameList.{NameList}
use Rattle.rules.specs.Limits.{limits}
use Rattle.rules.specs.Typed.{name_list}
use Rattle.records.specs.Steps.{kind_from, request_from, step_read}
use Rattle.records.proofs.Listed.{names-read}
use Rattle.records.proofs.Requests.{request_long, request-formed}
use Rattle.records.proofs.steps.step_of.Goals.{After-is_well_formed, Start}
use Rattle.records.proofs.steps.step_of.Goals as goal

-- the list that the bytes say
abbrev list : Start → List ℕ
list c = words_of c.args.w.list.count (drop c.args.w.list.at c.args.value.now)

-- the step that was put together, with that list in its places
abbrev names : After-is_well_formed → NameList
names c = record { count = c.args.w.list.count; names = c.read_words.new.list ++ drop c.args.w.list.count (replicate limits.names 0) }

abbrev step : After-is_well_formed → Step
step c = record { time = get_or c.args.w.numbers 0 0; kind = c.in_ok-kind.kind; list = names c }

placed : (c : After-is_well_formed) → names c ≡ name_list (list (goal.at.After-is_well_formed c).Start)
placed c =
    let a = c.args in
    let words = c.read_words.ensures ∙ ap₂ words_of (length-take-le a.w.list.count (replicate limits.names 0) (omega arith)) (take_rest a.value.now a.w.list.at) in
    names-read a.w.list.count c.read_words.new.list (drop a.w.list.at a.value.now) words (omega arith)

-- it is read where it is well formed
reads : (c : After-is_well_formed) (b : Bool) → c.is_well_formed.result ≡ b
    → step_read (request_from c.args.w.numbers (list (goal.at.After-is_well_formed c).Start) (kind_from c.args.tag c.args.w.numbers)) ≡ then_some b (step c)
reads c b e =
    let a = c.args in
    let k = c.in_ok-kind.kind in
    let t = get_or a.w.numbers 0 0 in
    rw (← c.in_ok-kind.ensures)
    (request-formed a.w.numbers (list (goal.at.After-is_well_formed c).Start) k (step c) b (omega (arith, length-words_of a.w.list.count (drop a.w.list.at a.value.now)))
    (λ i. record { time = t; kind = k; list = placed c i }) (sym c.is_well_formed.ensures ∙ e))

pub returns-then-count-gt-NAMES : goal.returns-then-count-gt-NAMES
returns-then-count-gt-NAMES c =
    let a = c.args in
    rw (request_long a.w.numbers (list (goal.at.returns-then-count-gt-NAMES c).Start) (kind_from a.tag a.w.numbers) (omega (arith, length-words_of a.w.list.count (drop a.w.list.at a.value.now))))

pub returns : goal.returns
returns c = c.then_some.ensures ∙ sym (reads (goal.at.returns c).After-is_well_formed c.is_well_formed.result refl)
