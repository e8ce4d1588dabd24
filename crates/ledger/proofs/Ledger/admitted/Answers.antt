-- `Ledger::admitted` meets its contract: each kind's own function has it, and beside a kind without a list there is none.
-- Assumes nothing.
use mathlib.Core.Path.{refl, ◌∙◌}
use Rattle.rules.specs.Typed.{names_of}
use Rattle.ledger.proofs.Whole.{admits_alone, rules-alone}
use Rattle.ledger.proofs.Ledger.admitted.Goals as goal

pub fence-requires : goal.fence-requires
fence-requires c =
    let s = c in
    let p = s.args.step in
    admits_alone s.args.self p.time (names_of p.list) s.requires.0 c.in-Fence.is refl

pub put-requires : goal.put-requires
put-requires c =
    let s = c in
    let p = s.args.step in
    admits_alone s.args.self p.time (names_of p.list) s.requires.0 c.in-Put.is refl

pub compact-requires : goal.compact-requires
compact-requires c =
    let s = c in
    let p = s.args.step in
    admits_alone s.args.self p.time (names_of p.list) s.requires.0 c.in-Compact.is refl

pub hold-requires : goal.hold-requires
hold-requires c =
    let s = c in
    let p = s.args.step in
    admits_alone s.args.self p.time (names_of p.list) s.requires.0 c.in-Hold.is refl

pub renew-requires : goal.renew-requires
renew-requires c =
    let s = c in
    let p = s.args.step in
    admits_alone s.args.self p.time (names_of p.list) s.requires.0 c.in-Renew.is refl

pub release-requires : goal.release-requires
release-requires c =
    let s = c in
    let p = s.args.step in
    admits_alone s.args.self p.time (names_of p.list) s.requires.0 c.in-Release.is refl

pub list-requires : goal.list-requires
list-requires c =
    let s = c in
    let p = s.args.step in
    admits_alone s.args.self p.time (names_of p.list) s.requires.0 c.in-List.is refl

pub look-requires : goal.look-requires
look-requires c =
    let s = c in
    let p = s.args.step in
    admits_alone s.args.self p.time (names_of p.list) s.requires.0 c.in-Look.is refl

pub collect-requires : goal.collect-requires
collect-requires c =
    let s = c in
    let p = s.args.step in
    admits_alone s.args.self p.time (names_of p.list) s.requires.0 c.in-Collect.is refl

pub returns-in-Fence : goal.returns-in-Fence
returns-in-Fence c =
    let s = c in
    let p = s.args.step in
    c.fence.ensures ∙ rules-alone s.args.self p.time (names_of p.list) s.requires.0 c.in-Fence.is refl

pub returns-in-Put : goal.returns-in-Put
returns-in-Put c =
    let s = c in
    let p = s.args.step in
    c.put.ensures ∙ rules-alone s.args.self p.time (names_of p.list) s.requires.0 c.in-Put.is refl

pub returns-in-Compact : goal.returns-in-Compact
returns-in-Compact c =
    let s = c in
    let p = s.args.step in
    c.compact.ensures ∙ rules-alone s.args.self p.time (names_of p.list) s.requires.0 c.in-Compact.is refl

pub returns-in-Hold : goal.returns-in-Hold
returns-in-Hold c =
    let s = c in
    let p = s.args.step in
    c.hold.ensures ∙ rules-alone s.args.self p.time (names_of p.list) s.requires.0 c.in-Hold.is refl

pub returns-in-Renew : goal.returns-in-Renew
returns-in-Renew c =
    let s = c in
    let p = s.args.step in
    c.renew.ensures ∙ rules-alone s.args.self p.time (names_of p.list) s.requires.0 c.in-Renew.is refl

pub returns-in-Release : goal.returns-in-Release
returns-in-Release c =
    let s = c in
    let p = s.args.step in
    c.release.ensures ∙ rules-alone s.args.self p.time (names_of p.list) s.requires.0 c.in-Release.is refl

pub returns-in-List : goal.returns-in-List
returns-in-List c =
    let s = c in
    let p = s.args.step in
    c.list.ensures ∙ rules-alone s.args.self p.time (names_of p.list) s.requires.0 c.in-List.is refl

pub returns-in-Look : goal.returns-in-Look
returns-in-Look c =
    let s = c in
    let p = s.args.step in
    c.look.ensures ∙ rules-alone s.args.self p.time (names_of p.list) s.requires.0 c.in-Look.is refl

pub returns-in-Collect : goal.returns-in-Collect
returns-in-Collect c =
    let s = c in
    let p = s.args.step in
    c.collect.ensures ∙ rules-alone s.args.self p.time (names_of p.list) s.requires.0 c.in-Collect.is refl
