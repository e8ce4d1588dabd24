-- `Objects::places_sound` meets its contract.
-- Assumes nothing.
use mathlib.Core.Path.{◌∙◌}
use Rattle.std.proofs.Common.{rules, tests}
use Rattle.std.proofs.lemmas.Iterator.{YieldsList-from_slice}
use Rattle.std.proofs.lemmas.Iterator.Search.{all_from_yields_List}
use Rattle.rules.proofs.Listed.{all_listed}
use Rattle.objects.specs.Objects.{place_sound_by}
use Rattle.objects.proofs.Objects.places_sound.Goals as goal

pub returns : goal.returns
returns c =
    let s = c.args in
    all_from_yields_List (place_sound_by s.writer s.compactor) _ _ _ c.all.ensures.ran (YieldsList-from_slice s.self.items cc) (λ x b q k. search (rules, tests)) ∙ all_listed _ _
