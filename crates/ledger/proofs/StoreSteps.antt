-- The rows of the kinds that change manifests and objects, in the parts that the code tests; and what FENCE, PUT, COMMIT and COMPACT leave where no row applies.
-- Assumes nothing.
use mathlib.Core.Path.{◌≡◌, refl, sym, ap, ap₂, ◌∙◌}
use mathlib.Core.Bool.{Bool, true, false, not, cond}
use mathlib.Core.List.Memᴰ
use mathlib.Core.List.{List, [], ◌∷◌}
use Prim.Native.Nat.{ℕ, suc, max, ◌+◌, ◌-◌, ◌≤◌, ◌<◌}
use native.Mathlib.Numerals.{add-one}
use native.Mathlib.Omega.{arith}
use borrow.Author.Tests.{ne_eqb, leb-false, ltb-false}
use lib.Dec.{leb, ltb, eqb}
use lib.ListN.{length, take}
use lib.Seq.{length-take-le, get_or-take}
use Rattle.rules.specs.declared.Role.{Role}
use Rattle.rules.specs.declared.Role.TheVariants.{Writer, Compactor}
use Rattle.rules.specs.declared.NameList.{NameList}
use Rattle.rules.specs.declared.Kind.TheVariants.{Fence as FENCE, Put as PUT, Commit as COMMIT, Compact as COMPACT}
use Rattle.rules.specs.declared.Answer.TheVariants.{Done, Epoch}
use Rattle.rules.specs.Limits.{limits}
use Rattle.rules.specs.Lists.{◌∈◌, any, none, maximum}
use Rattle.rules.specs.State.{State, kept, epoch_of}
use Rattle.rules.specs.Table.{◌if◌, row4, row5, row6, row7, row8, row10, row11, row17, first_of, slot_row, fence_row}
use Rattle.rules.specs.Words.{stored, currency_of, of_currency, compacted}
use Rattle.rules.specs.Request.{Request, Asked}
use Rattle.rules.specs.Step.{settle, tidy, publish, put, act, answers, alone, effect, granted}
use Rattle.rules.specs.Typed.{is_padded, name_list, names_of}
use Rattle.rules.proofs.Lists.{conj-true, keep_in}
use Rattle.rules.proofs.Numbers.{rising_above_lem}
use Rattle.rules.proofs.Ordered.{ordered_sum}
use Rattle.rules.proofs.SoundEnds.{current-kept}
use Rattle.rules.proofs.Soundness.{compacted-length}
use Rattle.rules.proofs.Typed.{padded-take, padded-said}
use Rattle.objects.specs.Objects.{role_epoch, currency_in, of_currency_in}
use Rattle.manifests.specs.declared.KeptManifest.{KeptManifest}
use Rattle.manifests.specs.Manifests.{manifest_of, current_of, past_end, is_list_laid, is_laid}
use Rattle.manifests.proofs.Places as lists
use Rattle.manifests.proofs.Places.{all-at}
use Rattle.ledger.specs.declared.Ledger.{Ledger}
use Rattle.ledger.specs.declared.StepAnswer.{StepAnswer}
use Rattle.ledger.specs.Ledger.{lay, view, is_sound}
use Rattle.ledger.specs.Rows.{row_behind}
use Rattle.ledger.specs.Step.{answered_with}
use Rattle.ledger.proofs.View.{Sized, sound_parts, sound_shape}
use Rattle.ledger.proofs.Live.{fence-rows, put-rows, commit-rows, compact_rows}

-- The first rows of a chain, tested by themselves

module _ (m : ℕ) (rest : ℕ) where
  -- one row: it applies, or what is left decides
  pub one-stop : (a : Bool) → (first_of ((suc m if a) ∷ []) ≡ 0 → ⊥) → first_of ((suc m if a) ∷ []) ≡ cond a (suc m) rest
  unfolding first_of
  one-stop true f = refl
  one-stop false f = absurd (f refl)

  pub one_pass : (a : Bool) → first_of ((suc m if a) ∷ []) ≡ 0 → cond a (suc m) rest ≡ rest
  unfolding first_of
  one_pass true e = absurd (omega (arith, e))
  one_pass false e = refl

  -- two rows
  two_stop : (n : ℕ) (a b : Bool) → (first_of ((suc m if a) ∷ (suc n if b) ∷ []) ≡ 0 → ⊥) → first_of ((suc m if a) ∷ (suc n if b) ∷ []) ≡ cond a (suc m) (cond b (suc n) rest)
  unfolding first_of
  two_stop n true b f = refl
  two_stop n false true f = refl
  two_stop n false false f = absurd (f refl)

  two_pass : (n : ℕ) (a b : Bool) → first_of ((suc m if a) ∷ (suc n if b) ∷ []) ≡ 0 → cond a (suc m) (cond b (suc n) rest) ≡ rest
  unfolding first_of
  two_pass n true b e = absurd (omega (arith, e))
  two_pass n false true e = absurd (omega (arith, e))
  two_pass n false false e = refl

  -- no row of the chain applies: not this one, and none of what is left
  clear : (a : Bool) → cond a (suc m) rest ≡ 0 → (a ≡ false) × (rest ≡ 0)
  clear true e = absurd (omega (arith, e))
  clear false e = (refl, e)

-- rows 4 to 7, which COMMIT and COMPACT have first: of the role's epoch and the epoch that is said, and of the slot
abbrev pub fenced_rows : State → ℕ → ℕ → ℕ → ℕ → ℕ
fenced_rows s current e slot rest = cond (row4 current e) 4 (cond (row5 current e) 5 (cond (row6 s slot) 6 (cond (row7 s slot) 7 rest)))

module _ (s : State) (current e slot : ℕ) (rest : ℕ) {r : ℕ} (is : r ≡ fence_row current e) where
  pub fence-stop : (r ≡ 0 → ⊥) → r ≡ fenced_rows s current e slot rest
  fence-stop f = is ∙ two_stop 3 _ 4 (row4 current e) (row5 current e) (λ z. f (is ∙ z))

  module _ (z : r ≡ 0) {q : ℕ} (js : q ≡ slot_row s.current.number slot) where
    pub slot-stop : (q ≡ 0 → ⊥) → q ≡ fenced_rows s current e slot rest
    slot-stop f =
        js ∙ two_stop 5 rest 6 (row6 s slot) (row7 s slot) (λ y. f (js ∙ y))
        ∙ sym (two_pass 3 _ 4 (row4 current e) (row5 current e) (sym is ∙ z))

    pub slot_pass : q ≡ 0 → fenced_rows s current e slot rest ≡ rest
    slot_pass y = two_pass 3 _ 4 (row4 current e) (row5 current e) (sym is ∙ z) ∙ two_pass 5 rest 6 (row6 s slot) (row7 s slot) (sym js ∙ y)

-- a role's epoch, of the places and of what they say
pub role_epoch_lem : (r : Role) (m : KeptManifest) → role_epoch r m.writer m.compactor ≡ epoch_of r (manifest_of m)
role_epoch_lem Writer m = refl
role_epoch_lem Compactor m = refl

-- one name is stored or row 8 applies
pub one-stored : (s : State) (n : ℕ) (b : Bool) → stored s n ≡ b → row8 s (n ∷ []) ≡ not b
unfolding any
one-stored s n true e = rw e
one-stored s n false e = rw e

-- The highest of numbers that are not 0 is 0 where there are none

pub highest-none : (l : List ℕ) → ((n : ℕ) → n ∈ l → 0 < n) → eqb (maximum l) 0 ≡ none l
unfolding none maximum
highest-none [] f = refl
highest-none (n ∷ ns) f = let h = f n (Memᴰ.head refl) in ne_eqb (max n (maximum ns)) 0 (omega arith)

module _ (l : Ledger) (e : is_sound l ≡ true) where
  -- the names of the current manifest are not 0
  pub highest-row : (n : ℕ) → row17 (view l) n ≡ eqb (maximum (of_currency_in l.objects.items (currency_in l.objects.items n) (view l).current.names)) 0
  unfolding of_currency currency_of
  highest-row n =
      let names = (view l).current.names in
      sym (highest-none (of_currency_in l.objects.items (currency_in l.objects.items n) names)
      (λ k i. rising_above_lem 0 k names ((sound_shape l e).rising _ (current-kept (view l))) (keep_in _ names i).0))

  -- the two epochs add to at most the number
  pub epochs_few : (view l).current.writer_epoch + (view l).current.compactor_epoch ≤ (view l).current.number
  epochs_few = ordered_sum 0 0 0 (kept (view l)) (view l).current (sound_shape l e).ordered (current-kept (view l))

  -- the current list is laid out
  pub current-padded : Sized l → is_padded (current_of l.manifests).count (current_of l.manifests).names ≡ true
  unfolding is_laid
  current-padded s =
      let ms = l.manifests in
      let laid = (sound_parts l e).manifests in
      let last = ms.count - 1 in
      let h : last < ms.count = omega (arith, lists.some ms laid) in
      let room : ms.count ≤ length ms.items = omega (arith, lists.few ms laid, s.manifests.items) in
      ap is_list_laid (sym (get_or-take ms.count ms.items last past_end h))
      ∙ all-at is_list_laid (take ms.count ms.items) (conj-true _ laid).1.1.0 last past_end (rw (length-take-le ms.count ms.items room) h)

-- Where no row applies: the slot is the next one, and what else the code needs

next_slot_lem : (current slot rest : ℕ) → cond (leb slot current) 6 (cond (ltb (suc current) slot) 7 rest) ≡ 0 → (slot ≡ suc current) × (rest ≡ 0)
next_slot_lem current slot rest e =
    let f = clear 5 _ (leb slot current) e in
    let g = clear 6 rest (ltb (suc current) slot) f.1 in
    (omega (arith, leb-false slot current f.0, ltb-false (suc current) slot g.0), g.1)

fenced_clear : (s : State) (current e slot rest : ℕ) → fenced_rows s current e slot rest ≡ 0 → (slot ≡ suc s.current.number) × (rest ≡ 0)
fenced_clear s current e slot rest z =
    let f = clear 3 _ (row4 current e) z in
    let g = clear 4 _ (row5 current e) f.1 in
    next_slot_lem s.current.number slot rest g.1

module _ (s : State) (t : ℕ) {r : ℕ} (z : r ≡ 0) where
  pub fence-clear : (who : Role) (slot : ℕ) → r ≡ row_behind s t (FENCE who slot) [] → slot ≡ suc s.current.number
  unfolding first_of
  fence-clear who slot e = (next_slot_lem s.current.number slot 0 (sym (fence-rows s t who slot) ∙ sym e ∙ z)).0

  pub commit-clear : (epoch slot : ℕ) (l : List ℕ) → r ≡ row_behind s t (COMMIT epoch slot) l → slot ≡ suc s.current.number
  commit-clear epoch slot l e = (fenced_clear s s.current.writer_epoch epoch slot _ (sym (commit-rows s t epoch slot l) ∙ sym e ∙ z)).0

  pub compact_clear : (epoch slot n : ℕ) → r ≡ row_behind s t (COMPACT epoch slot n) [] → (slot ≡ suc s.current.number) × (row17 s n ≡ false)
  compact_clear epoch slot n e =
      let f = fenced_clear s s.current.compactor_epoch epoch slot _ (sym (compact_rows s t epoch slot n) ∙ sym e ∙ z) in
      let g = clear 7 _ (row8 s (n ∷ [])) f.1 in
      (f.0, (clear 16 0 (row17 s n) g.1).0)

  pub put-clear : (who : Role) (epoch n c : ℕ) → r ≡ row_behind s t (PUT who epoch n c) [] → row11 limits s ≡ false
  put-clear who epoch n c e =
      let f = clear 3 _ (row4 (epoch_of who s.current) epoch) (sym (put-rows s t who epoch n c) ∙ sym e ∙ z) in
      let g = clear 8 _ (stored s n) f.1 in
      let h = clear 9 _ (row10 s n) g.1 in
      (clear 10 0 (row11 limits s) h.1).0

-- What a step leaves

-- the ledger at that time with a new manifest
abbrev published_by : Ledger → ℕ → ℕ → ℕ → List ℕ → Ledger
published_by l t w c names = lay (tidy (publish w c names (settle t (view l))))

-- the answer and the next ledger where a request is accepted
abbrev accepted_by : Ledger → Request → StepAnswer
accepted_by l q = answered_with (granted q (view l)) (lay (effect q (view l)))

module _ (l : Ledger) (t : ℕ) {m : KeptManifest} (is : m ≡ current_of l.manifests) where
  pub fence-writer : (slot : ℕ) → answered_with (alone (Epoch (m.writer + 1))) (published_by l t (m.writer + 1) m.compactor (take m.count m.names))
      ≡ accepted_by l (Asked t (FENCE Writer slot) [])
  unfolding act answers
  fence-writer slot =
      ap₂ (λ (e : ℕ) (m : KeptManifest). answered_with (alone (Epoch e)) (published_by l t e m.compactor (take m.count m.names)))
      (add-one m.writer ∙ ap (λ (m : KeptManifest). suc m.writer) is) is

  pub fence-compactor : (slot : ℕ) → answered_with (alone (Epoch (m.compactor + 1))) (published_by l t m.writer (m.compactor + 1) (take m.count m.names))
      ≡ accepted_by l (Asked t (FENCE Compactor slot) [])
  unfolding act answers
  fence-compactor slot =
      ap₂ (λ (e : ℕ) (m : KeptManifest). answered_with (alone (Epoch e)) (published_by l t m.writer e (take m.count m.names)))
      (add-one m.compactor ∙ ap (λ (m : KeptManifest). suc m.compactor) is) is

  pub commit_comes : (epoch slot : ℕ) (names : List ℕ) → answered_with (alone Done) (published_by l t m.writer m.compactor names)
      ≡ accepted_by l (Asked t (COMMIT epoch slot) names)
  unfolding act answers
  commit_comes epoch slot names = ap (λ (m : KeptManifest). answered_with (alone Done) (published_by l t m.writer m.compactor names)) is

  pub compact_comes : (epoch slot n : ℕ) {names : List ℕ} → names ≡ compacted (view l) n
      → answered_with (alone Done) (published_by l t m.writer m.compactor names) ≡ accepted_by l (Asked t (COMPACT epoch slot n) [])
  unfolding act answers compacted currency_of
  compact_comes epoch slot n e =
      ap₂ (λ (m : KeptManifest) (names : List ℕ). answered_with (alone Done) (published_by l t m.writer m.compactor names)) is e

pub put_comes : (l : Ledger) (t : ℕ) (who : Role) (epoch n c : ℕ)
    → answered_with (alone Done) (lay (tidy (put (record { number = n; role = who; epoch = epoch; currency = c; named = false }) (settle t (view l)))))
    ≡ accepted_by l (Asked t (PUT who epoch n c) [])
unfolding act answers
put_comes l t who epoch n c = refl

-- The list of a compaction, in its places

module _ (l : Ledger) (e : is_sound l ≡ true) (n : ℕ) (some : row17 (view l) n ≡ false) where
  compacted-few : length (compacted (view l) n) ≤ limits.names
  compacted-few = omega (arith, compacted-length (view l) n some, (sound_shape l e).short _ (current-kept (view l)))

  pub compacted-padded : {ns : NameList} → ns ≡ name_list (compacted (view l) n) → is_padded ns.count ns.names ≡ true
  compacted-padded is = ap (λ (ns : NameList). is_padded ns.count ns.names) is ∙ padded-said limits.names (compacted (view l) n) compacted-few

  pub compacted-said : {ns : NameList} → ns ≡ name_list (compacted (view l) n) → take ns.count ns.names ≡ compacted (view l) n
  compacted-said is = ap names_of is ∙ padded-take limits.names (compacted (view l) n) compacted-few
