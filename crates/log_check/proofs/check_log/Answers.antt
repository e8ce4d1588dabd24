use Rattle.std.proofs.Common.{◌≡◌, true, refl, sym, ◌∙◌, arith, length-take-le}
use Rattle.log_check.specs.Check.{is_prefix}
use Rattle.log_check.proofs.Loop.{initially, Iteration, at_exit, some_read, read_within_lem, verdict-within, matches, differs, logged-within, preserved}
use Rattle.log_check.proofs.check_log.Goals.{After-step_record-stepped, Then-not-starts_with, Else-not-starts_with}
use Rattle.log_check.proofs.check_log.Goals as goal

pub loop-n-init : goal.loop-n-init
loop-n-init c = initially _ _ _ _ refl

-- the front was judged
iteration : (s : After-step_record-stepped)
    → (let l = s.loop-n in
    let a = s.args in
    Iteration a.ledger a.trace.now a.log.now l.verdict l.ledger l.read l.agreed l.index s.step_record-stepped.result s.step_record-stepped.new.out)
iteration s = record { before = s.loop-n.invariant; stepped = s.step_record-stepped.ensures }

-- the log goes on with the verdict
there : (c : Else-not-starts_with) → matches (iteration (goal.at.Else-not-starts_with c).After-step_record-stepped) _ _ c.in-Judged.is ≡ true
unfolding is_prefix
there c = sym c.starts_with.ensures.value ∙ c.if-not-starts_with.false

pub returns-in_default : goal.returns-in_default
returns-in_default c = at_exit (iteration (goal.at.returns-in_default c).After-step_record-stepped) c.in_default.not-Judged c.ended.ensures

pub slice_bounds-verdict-end : goal.slice_bounds-verdict-end
slice_bounds-verdict-end c = verdict-within (iteration (goal.at.slice_bounds-verdict-end c).After-step_record-stepped) _ _ c.in-Judged.is

pub slice_bounds-starts_with-end-in-loop-n : goal.slice_bounds-starts_with-end-in-loop-n
slice_bounds-starts_with-end-in-loop-n c = sym (length-take-le _ _ (verdict-within (iteration (goal.at.slice_bounds-starts_with-end-in-loop-n c).After-step_record-stepped) _ _ c.in-Judged.is))

pub returns-then-not-starts_with : goal.returns-then-not-starts_with
unfolding is_prefix
returns-then-not-starts_with c =
    differs (iteration (goal.at.returns-then-not-starts_with c).After-step_record-stepped) _ _ c.in-Judged.is (sym c.starts_with.ensures.value ∙ c.if-not-starts_with.true)

pub overflow_add-read : goal.overflow_add-read
overflow_add-read c = omega (arith, read_within_lem (iteration (goal.at.overflow_add-read c).After-step_record-stepped) _ _ c.in-Judged.is, c.well_formed.1.0.0)

pub overflow_add-agreed : goal.overflow_add-agreed
overflow_add-agreed c =
    let at = goal.at.overflow_add-agreed c in
    omega (arith, logged-within (iteration at.After-step_record-stepped) _ _ c.in-Judged.is (there at.Else-not-starts_with), c.well_formed.1.1.0.0)

pub loop-n-smaller : goal.loop-n-smaller
loop-n-smaller c =
    let t = iteration (goal.at.loop-n-smaller c).After-step_record-stepped in
    omega (arith, some_read t _ _ c.in-Judged.is, read_within_lem t _ _ c.in-Judged.is)

pub loop-n-preserved : goal.loop-n-preserved
loop-n-preserved c =
    let at = goal.at.loop-n-preserved c in
    preserved (iteration at.After-step_record-stepped) _ _ c.in-Judged.is (there at.Else-not-starts_with) (c.loop-n.invariant.room ∙ sym c.step_record-stepped.auto.out)
