use mathlib.Core.Path.{◌≡◌, sym, ap, ◌∙◌}
use mathlib.Core.Bool.{Bool, true, ◌&&◌}
use mathlib.Core.List.{List}
use Prim.Native.Nat.{ℕ, ◌<◌}
use native.Mathlib.Omega.{arith}
use lib.ListN.{take}
use lib.Seq.{length-take-le, get_or-take}
use Rattle.rules.specs.declared.Object.{Object}
use Rattle.rules.specs.Lists.{all, conj, rising_above}
use Rattle.objects.specs.Objects.{among, named_at}
use Rattle.objects.proofs.Places.{named-among}
use Rattle.manifests.specs.declared.KeptManifest.{KeptManifest}
use Rattle.manifests.specs.Manifests.{past_end}
use Rattle.manifests.proofs.Places.{long, few, names-few}
use Rattle.ledger.specs.Parts.{list_sound, list_sound_by}
use Rattle.ledger.proofs.SoundParts.{all_same}
use Rattle.ledger.proofs.sound.lists_sound.Goals as goal

-- by the numbers as by the objects themselves
lists_same : (named : List ℕ) (ps : List Object) → named ≡ named_at ps → (ms : List KeptManifest) → all (list_sound_by named) ms ≡ all (list_sound ps) ms
unfolding list_sound conj
lists_same named ps e ms = all_same _ _ ms (λ m i. ap (λ (b : Bool). rising_above 0 (take m.count m.names) && (b && true))
    (all_same _ _ (take m.count m.names) (λ n j. ap (λ (ns : List ℕ). among ns n) e ∙ sym (named-among ps n))))

pub loop-manifest-init : goal.loop-manifest-init
loop-manifest-init c = lists_same c.named-named.result c.args.objects.items c.named-named.ensures (take c.args.manifests.count c.args.manifests.items)

pub list_sound-requires : goal.list_sound-requires
list_sound-requires c =
    let m = c.args.manifests in
    let l = long m _ c.well_formed.0 in
    let i = c.loop-manifest.manifest-index in
    let h : i < m.count = omega (arith, few m c.requires, length-take-le m.count m.items (omega (arith, few m c.requires, l.items)), c.loop-manifest-test.true) in
    rw (get_or-take m.count m.items i past_end h) (names-few m l c.requires i h)
