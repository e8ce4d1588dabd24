-- Steps whose numbers fit leave ledgers whose numbers fit their columns: what a number of the ledger is, was asked or was there. Assumes nothing.
use mathlib.Core.Path.{◌≡◌, refl, sym, ap, subst}
use mathlib.Core.Logic.{◌⊎◌, inl, inr, ⊎_elim}
use mathlib.Core.Bool.{Bool, true, false, cond}
use mathlib.Core.List.Memᴰ
use mathlib.Core.List.{List, [], ◌∷◌, map}
use Prim.Native.Nat.{ℕ, zero, suc, ◌<◌, ◌^◌}
use native.Mathlib.Omega.{arith}
use borrow.Author.Tests.{ltb-true, leb-false, lt-ltb}
use lib.Dec.{ltb, eqb}
use lib.ListN.{replicate}
use Rattle.rules.specs.declared.Role.{Role}
use Rattle.rules.specs.declared.Role.TheVariants.{Writer, Compactor}
use Rattle.rules.specs.declared.Kind.{Kind}
use Rattle.rules.specs.declared.Kind.TheVariants.{Fence as FENCE, Put as PUT, Commit as COMMIT, Compact as COMPACT, Hold as HOLD, Renew as RENEW, Release as RELEASE, List as LIST, Look as LOOK, Collect as COLLECT}
use Rattle.rules.specs.declared.Object.{Object}
use Rattle.rules.specs.declared.Hold.{Hold}
use Rattle.rules.specs.Lists.{◌∈◌, all, keep, maximum}
use Rattle.rules.specs.Limits.{Limits, limits}
use Rattle.rules.specs.State.{Manifest, State, free, fresh_in, fresh, occupied, objects, kept, epoch_of}
use Rattle.rules.specs.Words.{live, dead}
use Rattle.rules.specs.Request.{Request, Asked, Unreadable, Ask}
use Rattle.rules.specs.Table.{row6, rows}
use Rattle.rules.specs.Step.{with_holds, settle, tidy, mark, publish, fence, put, insert_hold, renewed, other, clear, collected, collect, act, effect, rows_of, accepts, next}
use Rattle.rules.specs.Sound.{sound}
use Rattle.rules.specs.Demand3.{ledger_from, ledger_of}
use Rattle.rules.proofs.Lists.{and_left, and_right, and_both, in_all, keep_in, in_keep}
use Rattle.rules.proofs.Numbers.{sorted_in}
use Rattle.rules.proofs.Ordered.{ordered_sum}
use Rattle.rules.proofs.Shape.{Shape, Named, shape_of, held_of}
use Rattle.rules.proofs.SoundEnds.{current-kept}
use Rattle.rules.proofs.Settle.{tidy-back}
use Rattle.rules.proofs.Put.{place-from}
use Rattle.rules.proofs.Holds.{insert_hold-from}
use Rattle.rules.proofs.Table.{Clear, cleared}
use Rattle.rules.proofs.Soundness.{sound-fresh, ledger_from-sound}
use Rattle.records.specs.declared.Field.{Field}
use Rattle.records.specs.Format.{role_code}
use Rattle.records.specs.Steps.{fields_of}
use Rattle.records.specs.RoundTrip.{fits as field_fits}
use Rattle.image.specs.Fit.{fits}
use Rattle.image.specs.Format.{object_row, flag, object_cells, manifest_row, manifest_cells, hold_row, hold_cells}
use Rattle.image.specs.RoundTrip.{Fits}
use Rattle.image_history.specs.AfterLoad.{request_fits, ask_fits}

-- ---- numbers within their widths, as facts and not as a test

abbrev Within : List ℕ → List ℕ → Type 0
Within [] [] = Unit {0}
Within [] (n ∷ ns) = ⊥
Within (w ∷ ws) [] = ⊥
Within (w ∷ ws) (n ∷ ns) = (n < 256 ^ w) × Within ws ns

within-fits : (ws ns : List ℕ) → Within ws ns → fits ws ns ≡ true
unfolding fits
within-fits [] [] h = refl
within-fits [] (n ∷ ns) h = absurd h
within-fits (w ∷ ws) [] h = absurd h
within-fits (w ∷ ws) (n ∷ ns) h = and_both (ltb n (256 ^ w)) (fits ws ns) (lt-ltb n (256 ^ w) h.0) (within-fits ws ns h.1)

-- the fields that are asked
abbrev Fields : List Field → Type 0
Fields fs = Within (map (λ (f : Field). f.width) fs) (map (λ (f : Field). f.number) fs)

fields_within : (fs : List Field) → all field_fits fs ≡ true → Fields fs
unfolding all
fields_within [] e = tt
fields_within (f ∷ fs) e = (ltb-true f.number (256 ^ f.width) (and_left (field_fits f) _ e), fields_within fs (and_right (field_fits f) (all field_fits fs) e))

role-within : (r : Role) → role_code r < 256 ^ 1
role-within Writer = omega arith
role-within Compactor = omega arith

flag-within : (b : Bool) → flag b < 256 ^ 1
flag-within true = omega arith
flag-within false = omega arith

-- ---- what has to be carried from step to step: soundness gives the other columns

abbrev Short : Hold → Type 0
Short x = (x.number < 2 ^ 64) × (x.expiry < 2 ^ 64)

record Narrow (s : State) : Type 0 where
  clock : s.clock < 2 ^ 64
  collected : s.highest_collected < 2 ^ 64
  objects : (o : Object) → o ∈ s.places → o.number < 2 ^ 64
  manifests : (m : Manifest) → m ∈ kept s → m.number < 2 ^ 64
  holds : (x : Hold) → x ∈ s.holds → Short x

module _ (L : Limits) (s : State) (good : sound L s ≡ true) (r : Narrow s) where
  shape : Shape L s
  shape = shape_of L s good

  -- the two epochs of a kept manifest add to at most its number
  manifest-within : (m : Manifest) → m ∈ kept s → Within manifest_row.widths (manifest_cells m).numbers
  manifest-within m i = let a = r.manifests m i in let b = ordered_sum 0 0 0 (kept s) m shape.ordered i in omega arith

  epoch-narrow : (role : Role) → epoch_of role s.current < 2 ^ 64
  epoch-narrow Writer = (manifest-within s.current (current-kept s)).1.0
  epoch-narrow Compactor = (manifest-within s.current (current-kept s)).1.1.0

  -- a place is free, or its object's epoch is at most its role's
  object-within : (o : Object) → o ∈ s.places → Within object_row.widths (object_cells 0 o).numbers
  object-within o i = step (occupied o) refl
    where
      step : (b : Bool) → occupied o ≡ b → Within object_row.widths (object_cells 0 o).numbers
      step true e =
          let k = shape.stored o (in_keep occupied i e) in
          (omega arith, (r.objects o i, (role-within o.role, (omega (arith, k.epoch, epoch-narrow o.role), (omega (arith, k.currency), (flag-within o.named, tt))))))
      step false e = subst (λ (x : Object). Within object_row.widths (object_cells 0 x).numbers) (sym (shape.unused o i e)) (omega arith)

  -- a hold names a kept manifest
  hold-within : (x : Hold) → x ∈ s.holds → Within hold_row.widths (hold_cells x).numbers
  hold-within x i = let k = shape.holds x i in let a = r.manifests k.0 k.1 in let b = r.holds x i in omega (arith, k.2)

  -- a kept manifest is current or held, so its names are those of stored objects
  kept-named : (m : Manifest) → (m ∈ s.older) ⊎ (m ∈ (s.current ∷ [])) → Named (objects s) m.names
  kept-named m (inl i) = let k = held_of L s good m i in shape.held k.0 k.1 m (Memᴰ.append_left (s.current ∷ []) i) k.2
  kept-named m (inr i) = subst (λ (m : Manifest). Named (objects s) m.names) (sym (Memᴰ.eq_of_singleton i)) shape.current

  name_narrow : (m : Manifest) → m ∈ kept s → (n : ℕ) → n ∈ m.names → n < 2 ^ 64
  name_narrow m i n j =
      let k = kept-named m (Memᴰ.append_cases s.older i) n j in
      subst (λ n. n < 2 ^ 64) k.2 (r.objects k.0 (keep_in occupied s.places k.1).0)

  narrow-fits : Fits s
  narrow-fits = record {
    clock = r.clock;
    collected = r.collected;
    objects = λ o i. within-fits object_row.widths (object_cells 0 o).numbers (object-within o i);
    manifests = λ m i. within-fits manifest_row.widths (manifest_cells m).numbers (manifest-within m i);
    names = λ m i. in_all (λ n. ltb n (2 ^ 64)) m.names (λ n j. lt-ltb n (2 ^ 64) (name_narrow m i n j));
    holds = λ x i. within-fits hold_row.widths (hold_cells x).numbers (hold-within x i);
  }

-- ---- what the kinds do to lists

-- what is said of the new one and of each old one is said of one that is either
either : {A : Type 0} (P : A → Type 0) {x y : A} {l : List A} → P y → ((z : A) → z ∈ l → P z) → (x ≡ y) ⊎ (x ∈ l) → P x
either P new old (inl e) = subst P (sym e) new
either P {x} new old (inr i) = old x i

-- what is said of f of each element is said of each element of the mapped list
mapped : {A B : Type 0} (P : B → Type 0) (f : A → B) (l : List A) → ((x : A) → x ∈ l → P (f x)) → (y : B) → y ∈ map f l → P y
mapped P f l h y i = let k = Memᴰ.of_map f l i in subst P k.2 (h k.0 k.1)

maximum-below : (b : ℕ) (l : List ℕ) → 0 < b → ((n : ℕ) → n ∈ l → n < b) → maximum l < b
unfolding maximum
maximum-below b [] pos h = pos
maximum-below b (n ∷ ns) pos h = omega (arith, h n (Memᴰ.head refl), maximum-below b ns pos (λ m i. h m (Memᴰ.tail i)))

-- ---- what the kinds and the end of a step do to the ledger

tidy-narrow : (s : State) → Narrow s → Narrow (tidy s)
tidy-narrow s r = record { clock = r.clock; collected = r.collected; objects = r.objects; manifests = λ m i. r.manifests m (tidy-back s m i); holds = r.holds }

renewed-short : (n e : ℕ) → e < 2 ^ 64 → (x : Hold) → Short x → Short (renewed n e x)
renewed-short n e h x k = step (eqb x.number n)
  where
    step : (b : Bool) → Short (cond b (record { number = x.number; manifest = x.manifest; expiry = e }) x)
    step true = (k.0, h)
    step false = k

module _ (s : State) (r : Narrow s) where
  -- a new manifest's number is at most the slot's, for row 6 does not apply
  publish-narrow : (slot : ℕ) → row6 s slot ≡ false → slot < 2 ^ 64 → (w c : ℕ) (l : List ℕ) → Narrow (publish w c l s)
  publish-narrow slot above h w c l = record {
    clock = r.clock;
    collected = r.collected;
    objects = mapped (λ (o : Object). o.number < 2 ^ 64) (mark l) s.places r.objects;
    manifests = λ m i. either (λ (m : Manifest). m.number < 2 ^ 64) number r.manifests (⊎_elim inr (λ j. inl (Memᴰ.eq_of_singleton j)) (Memᴰ.append_cases (kept s) i));
    holds = r.holds;
  }
    where
      number : suc s.current.number < 2 ^ 64
      number = omega (arith, leb-false slot s.current.number above)

  fence-narrow : (slot : ℕ) → row6 s slot ≡ false → slot < 2 ^ 64 → (role : Role) → Narrow (fence role s)
  fence-narrow slot above h Writer = publish-narrow slot above h _ _ _
  fence-narrow slot above h Compactor = publish-narrow slot above h _ _ _

  put-narrow : (o : Object) → o.number < 2 ^ 64 → Narrow (put o s)
  put-narrow o h = record {
    clock = r.clock;
    collected = r.collected;
    objects = λ x i. either (λ (x : Object). x.number < 2 ^ 64) h r.objects (place-from o x s.places i);
    manifests = r.manifests;
    holds = r.holds;
  }

  holds-narrow : (xs : List Hold) → ((x : Hold) → x ∈ xs → Short x) → Narrow (with_holds s xs)
  holds-narrow xs h = record { clock = r.clock; collected = r.collected; objects = r.objects; manifests = r.manifests; holds = h }

  hold-narrow : (x : Hold) → Short x → Narrow (with_holds s (insert_hold x s.holds))
  hold-narrow x h = holds-narrow _ (λ y i. either Short h r.holds (insert_hold-from x y s.holds i))

  renew_narrow : (n e : ℕ) → e < 2 ^ 64 → Narrow (with_holds s (map (renewed n e) s.holds))
  renew_narrow n e h = holds-narrow _ (mapped Short (renewed n e) s.holds (λ x i. renewed-short n e h x (r.holds x i)))

  release_narrow : (n : ℕ) → Narrow (with_holds s (keep (other n) s.holds))
  release_narrow n = holds-narrow _ (λ x i. r.holds x (keep_in (other n) s.holds i).0)

  -- a place is free now, or as it was
  clear-narrow : (o : Object) → o ∈ s.places → (clear s.clock s o).number < 2 ^ 64
  clear-narrow o i = step (dead s.clock s o)
    where
      step : (b : Bool) → (cond b free o).number < 2 ^ 64
      step true = omega arith
      step false = r.objects o i

  -- what is collected was stored
  collected-narrow : (n : ℕ) → n ∈ collected s.clock s → n < 2 ^ 64
  unfolding collected
  collected-narrow n i =
      mapped (λ n. n < 2 ^ 64) (λ (o : Object). o.number) (keep (dead s.clock s) (objects s))
      (λ o j. r.objects o (keep_in occupied s.places (keep_in (dead s.clock s) (objects s) j).0).0) n (sorted_in _ i)

  collect-narrow : Narrow (collect s)
  collect-narrow = record {
    clock = r.clock;
    collected = maximum-below (2 ^ 64) (s.highest_collected ∷ collected s.clock s) (omega arith) (λ n i. either (λ n. n < 2 ^ 64) r.collected collected-narrow (Memᴰ.cases_cons i));
    objects = mapped (λ (o : Object). o.number < 2 ^ 64) (clear s.clock s) s.places clear-narrow;
    manifests = r.manifests;
    holds = r.holds;
  }

-- ---- a step whole

module _ (L : Limits) (s : State) (r : Narrow s) (t : ℕ) (l : List ℕ) where
  settled : t < 2 ^ 64 → Narrow (settle t s)
  settled h = record {
    clock = h;
    collected = r.collected;
    objects = r.objects;
    manifests = r.manifests;
    holds = λ x i. r.holds x (keep_in (live t) s.holds i).0;
  }

  act-narrow : (k : Kind) → Clear (rows L s t k l) → Fields (fields_of t k) → Narrow (act k l (settle t s))
  unfolding rows act
  act-narrow (FENCE role slot) f w = fence-narrow (settle t s) (settled w.0) slot f.1.1.0 w.1.1.0 role
  act-narrow (PUT role e n c) f w = put-narrow (settle t s) (settled w.0) _ w.1.1.1.0
  act-narrow (COMMIT e slot) f w = publish-narrow (settle t s) (settled w.0) slot f.1.1.1.1.0 w.1.1.0 _ _ _
  act-narrow (COMPACT e slot n) f w = publish-narrow (settle t s) (settled w.0) slot f.1.1.1.1.0 w.1.1.0 _ _ _
  act-narrow (HOLD x m e) f w = hold-narrow (settle t s) (settled w.0) _ (w.1.0, w.1.1.1.0)
  act-narrow (RENEW x e) f w = renew_narrow (settle t s) (settled w.0) x e w.1.1.0
  act-narrow (RELEASE x) f w = release_narrow (settle t s) (settled w.0) x
  act-narrow (LIST x) f w = settled w.0
  act-narrow (LOOK c x) f w = settled w.0
  act-narrow COLLECT f w = collect-narrow (settle t s) (settled w.0)

module _ (L : Limits) (test : State → Bool) where
  effect-narrow : (s : State) (q : Request) → Clear (rows_of L test s q) → Narrow s → request_fits q ≡ true → Narrow (effect q s)
  effect-narrow s (Asked t k l) f r e = tidy-narrow _ (act-narrow L s r t l k f.1 (fields_within (fields_of t k) (and_left (all field_fits (fields_of t k)) _ e)))
  effect-narrow s Unreadable f r e = r

  next-narrow : (s : State) (a : Ask) → Narrow s → ask_fits a ≡ true → Narrow (next L test s a)
  unfolding next
  next-narrow s a r e = step (accepts L test s a) refl
    where
      step : (b : Bool) → accepts L test s a ≡ b → Narrow (cond b (effect a.request s) s)
      step true q = effect-narrow s a.request (cleared L test s a q) r e
      step false q = r

  ledger_from-narrow : (s : State) (qs : List Ask) → Narrow s → all ask_fits qs ≡ true → Narrow (ledger_from L test s qs)
  unfolding ledger_from all
  ledger_from-narrow s [] r e = r
  ledger_from-narrow s (a ∷ qs) r e = ledger_from-narrow (next L test s a) qs (next-narrow s a r (and_left (ask_fits a) (all ask_fits qs) e)) (and_right (ask_fits a) (all ask_fits qs) e)

-- ---- from the fresh ledger on

replicate_in : {A : Type 0} (n : ℕ) (x y : A) → y ∈ replicate n x → y ≡ x
replicate_in zero x y i = absurd (Memᴰ.not-nil i)
replicate_in (suc n) x y i = ⊎_elim (λ e. e) (replicate_in n x y) (Memᴰ.cases_cons i)

fresh-narrow : (L : Limits) → Narrow (fresh_in L)
fresh-narrow L = record {
  clock = omega arith;
  collected = omega arith;
  objects = λ o i. let e = ap (λ (o : Object). o.number) (replicate_in L.places free o i) in omega arith;
  manifests = λ m i. let e = ap (λ (m : Manifest). m.number) (Memᴰ.eq_of_singleton i) in omega arith;
  holds = λ x i. absurd (Memᴰ.not-nil i);
}

pub asked-fits : (qs : List Ask) → all ask_fits qs ≡ true → Fits (ledger_of qs)
asked-fits qs f =
    narrow-fits limits (ledger_of qs) (ledger_from-sound limits (sound limits) fresh qs (sound-fresh limits))
    (ledger_from-narrow limits (sound limits) fresh qs (fresh-narrow limits) f)
