-- `lists_sound` meets its contract. The invariant: whether the lists from here on are sound is what is asked.
-- Assumes nothing.
use mathlib.Core.Path.{◌≡◌}
use lib.ListN.{drop}
use Rattle.rules.specs.Lists.{all}
use Rattle.ledger.specs.Parts.{list_sound, list_sound_by}
use Rattle.ledger.proofs.sound.lists_sound.Given as goal

abbrev pub invariant-loop-manifest : goal.invariant-loop-manifest
invariant-loop-manifest l = all (list_sound_by l.named) (drop l.manifest-index l.manifest-items) ≡ all (list_sound l.fn.objects.items) l.manifest-items
