-- Reading and writing steps undo each other, and all else is refused; and how long a step is at most.
-- Assumes nothing.
use Rattle.std.specs.Option.{option_map}
use Rattle.std.proofs.Common.{Option, Some, None}
use mathlib.Core.Path.{◌≡◌, refl, subst}
use mathlib.Core.Bool.{Bool, true, false, cond}
use mathlib.Core.List.{List, [], ◌∷◌, map}
use Prim.Native.Nat.{ℕ, ◌+◌, ◌%◌, ◌≤◌}
use native.Mathlib.Nat.{mod-eq_of_lt}
use native.Mathlib.Omega.{arith}
use lib.Dec.{leb, eqb, lit<, lit≤}
use lib.ListN.{length, get_or, drop, replicate}
use borrow.Author.Tests.{leb-true, eqb-true}
use Rattle.rules.specs.declared.Role.{Role}
use Rattle.rules.specs.declared.Role.TheVariants.{Writer, Compactor}
use Rattle.rules.specs.declared.Kind.{Kind}
use Rattle.rules.specs.declared.Kind.TheVariants.{Fence as FENCE, Put as PUT, Commit as COMMIT, Compact as COMPACT, Hold as HOLD, Renew as RENEW, Release as RELEASE, List as LIST, Look as LOOK, Collect as COLLECT}
use Rattle.rules.specs.Request.{Request, Asked, Unreadable}
use Rattle.rules.specs.Lists.{conj, all, any}
use Rattle.rules.specs.Limits.{limits, currency_limit}
use Rattle.rules.specs.Table.{well_formed}
use Rattle.rules.proofs.Lists.{conj-true}
use Rattle.records.specs.declared.Field.{Field}
use Rattle.records.specs.Format.{role_code, most_fields}
use Rattle.records.specs.Found.{is_whole}
use Rattle.records.specs.Walk.{Walked, Found, Broken, walk}
use Rattle.records.specs.Steps.{outer_tag, fields_of, encode_step, longest_step, with_role, kind_from, formed, request_from, request_of_walk, request_of_tag, decode_step}
use Rattle.records.specs.RoundTrip.{fits, all_fit, are_bytes, StepRoundTrip}
use Rattle.records.proofs.WalkLaws.{split, blank, number, list-zero, total, single, filled_from, filled}
use Rattle.records.proofs.RoundTripRecords.{picked, fit_at, is_tidy, Beside, empty, first_empty, rising-short, length_record, record_written, Rewrites, RewritesBy, record_read, rewrites_as}

-- ---- reading what was written

-- the kind of an outer tag with every number 0
abbrev blank_kind : ℕ → Option Kind
blank_kind tag = kind_from tag (replicate most_fields 0)

role-read : (r : Role) (k : Role → Kind) → with_role (role_code r) k ≡ Some (k r)
role-read Writer k = refl
role-read Compactor k = refl

-- a currency fits its two bytes
currency-kept : (a b : Bool) (c : ℕ) → conj (a ∷ b ∷ leb c currency_limit ∷ []) ≡ true → c % 65536 ≡ c
currency-kept a b c h = mod-eq_of_lt (omega (arith, leb-true c currency_limit (conj-true (a ∷ b ∷ leb c currency_limit ∷ []) h).1.1.0))

-- what the table says of a kind: its fields, the fields that its outer tag is read with, the step of its numbers, its list, and its length
record Line (t : ℕ) (k : Kind) : Type 0 where
  tidy : is_tidy (fields_of t k) ≡ true
  blanks : (value : List ℕ) → request_of_tag (outer_tag k) value (blank_kind (outer_tag k)) ≡ request_of_walk (outer_tag k) (walk (map blank (fields_of t k)) value)
  asked : (l : List ℕ) → well_formed limits t k l ≡ true → request_of_walk (outer_tag k) (Found (map number (fields_of t k)) l) ≡ formed (Asked t k l)
  beside : (l : List ℕ) → well_formed limits t k l ≡ true → Beside (fields_of t k) l
  short : (l : List ℕ) → well_formed limits t k l ≡ true → 3 + total (length l) (fields_of t k) ≤ longest_step

line : (t : ℕ) (k : Kind) → Line t k
unfolding kind_from well_formed all any single total
line t (FENCE r n) = record { tidy = refl; blanks = λ v. refl; asked = λ l h. rw (role-read r (λ w. FENCE w n)); beside = λ l h. empty l h; short = λ l h. lit≤ tt }
line t (PUT r e n c) =
    record { tidy = refl; blanks = λ v. refl; asked = λ l h. rw (role-read r (λ w. PUT w e n (c % 65536)), currency-kept _ _ c h); beside = λ l h. first_empty l _ h; short = λ l h. lit≤ tt }
line t (COMMIT e n) =
    let few = rising-short limits.names in
    record { tidy = refl; blanks = λ v. refl; asked = λ l h. refl; beside = λ l h. (omega (arith, few l h), refl); short = λ l h. omega (arith, few l h) }
line t (COMPACT e n o) = record { tidy = refl; blanks = λ v. refl; asked = λ l h. refl; beside = λ l h. first_empty l _ h; short = λ l h. lit≤ tt }
line t (HOLD x m e) = record { tidy = refl; blanks = λ v. refl; asked = λ l h. refl; beside = λ l h. first_empty l _ h; short = λ l h. lit≤ tt }
line t (RENEW x e) = record { tidy = refl; blanks = λ v. refl; asked = λ l h. refl; beside = λ l h. first_empty l _ h; short = λ l h. lit≤ tt }
line t (RELEASE x) = record { tidy = refl; blanks = λ v. refl; asked = λ l h. refl; beside = λ l h. first_empty l _ h; short = λ l h. lit≤ tt }
line t (LIST x) = record { tidy = refl; blanks = λ v. refl; asked = λ l h. refl; beside = λ l h. empty l h; short = λ l h. lit≤ tt }
line t (LOOK c x) = record { tidy = refl; blanks = λ v. refl; asked = λ l h. rw (currency-kept _ _ c h); beside = λ l h. first_empty l _ h; short = λ l h. lit≤ tt }
line t COLLECT = record { tidy = refl; blanks = λ v. refl; asked = λ l h. refl; beside = λ l h. empty l h; short = λ l h. lit≤ tt }

reads_written_lem : (t : ℕ) (k : Kind) (l : List ℕ) → well_formed limits t k l ≡ true → all_fit (fields_of t k) l ≡ true → decode_step (encode_step t k l) ≡ Asked t k l
unfolding decode_step
reads_written_lem t k l well fit =
    let kind = line t k in
    let w = record_written (outer_tag k) (fields_of t k) l kind.tidy fit (kind.beside l well) in
    rw (w.long, w.whole, kind.blanks (drop 3 (encode_step t k l)), w.found, kind.asked l well, well)

-- ---- writing what was read

-- the fields that a record of this outer tag has
abbrev fields_read : Option Kind → List Field
fields_read None = []
fields_read (Some k) = fields_of 0 k

abbrev tag_fields : ℕ → List Field
tag_fields tag = fields_read (blank_kind tag)

-- a kind that was read has this outer tag, and its fields are those of the tag with the numbers read, where these fit
abbrev Reads : ℕ → List ℕ → Option Kind → Type 0
Reads tag v None = Unit {0}
Reads tag v (Some k) = (outer_tag k ≡ tag) × (all fits (filled (tag_fields tag) v) ≡ true → filled (tag_fields tag) v ≡ fields_of (get_or v 0 0) k)

module _ (v : List ℕ) where
  -- of this outer tag, or of another
  at : (tag T : ℕ) → Reads T v (kind_from T v) → (eqb tag T ≡ false → Reads tag v (kind_from tag v)) → Reads tag v (kind_from tag v)
  at tag T here others = split (eqb tag T) (λ e. rw (eqb-true tag T e) here) others

  with_role_lem : (tag n : ℕ) (k : Role → Kind) → ((r : Role) → n ≡ role_code r → Reads tag v (Some (k r))) → Reads tag v (with_role n k)
  with_role_lem tag n k each =
      picked with (eqb n 0) (Some Writer) (cond (eqb n 1) (Some Compactor) None) (λ e. each Writer (eqb-true n 0 e))
      (λ e. picked with (eqb n 1) (Some Compactor) None (λ f. each Compactor (eqb-true n 1 f)) (λ f. tt))
    where
      with : Option Role → Type 0
      with r = Reads tag v (option_map k r)

  kind_read : (tag : ℕ) → Reads tag v (kind_from tag v)
  unfolding kind_from filled_from
  kind_read tag =
      at tag 0x10 (with_role_lem 0x10 (get_or v 1 0) (λ r. FENCE r (get_or v 2 0)) (λ r e. (refl, λ fit. rw e))) (λ n0.
      at tag 0x11 (with_role_lem 0x11 (get_or v 1 0) (λ r. PUT r (get_or v 2 0) (get_or v 3 0) (get_or v 4 0 % 65536))
      (λ r e. (refl, λ fit. rw (e, mod-eq_of_lt {m = 65536} (fit_at (filled (tag_fields 0x11) v) 4 fit (lit< tt)))))) (λ n1.
      at tag 0x12 (refl, λ fit. rw (list-zero (fit_at (filled (tag_fields 0x12) v) 3 fit (lit< tt)))) (λ n2.
      at tag 0x13 (refl, λ fit. refl) (λ n3.
      at tag 0x14 (refl, λ fit. refl) (λ n4.
      at tag 0x15 (refl, λ fit. refl) (λ n5.
      at tag 0x16 (refl, λ fit. refl) (λ n6.
      at tag 0x17 (refl, λ fit. refl) (λ n7.
      at tag 0x18 (refl, λ fit. rw (mod-eq_of_lt {m = 65536} (fit_at (filled (tag_fields 0x18) v) 1 fit (lit< tt)))) (λ n8.
      at tag 0x19 (refl, λ fit. refl) (λ n9. rw (n0, n1, n2, n3, n4, n5, n6, n7, n8, n9) tt))))))))))

-- what bytes are read as is well formed, fits, and is written as the bytes
abbrev WrittenAs : List ℕ → Request → Type 0
WrittenAs bs Unreadable = Unit {0}
WrittenAs bs (Asked t k l) = (well_formed limits t k l ≡ true) × (all_fit (fields_of t k) l ≡ true) × (encode_step t k l ≡ bs)

module _ (bs : List ℕ) where
  well : (t : ℕ) (k : Kind) (l : List ℕ) → outer_tag k ≡ get_or bs 0 0 → Rewrites bs l (fields_of t k) → WrittenAs bs (formed (Asked t k l))
  well t k l tag r = picked (WrittenAs bs) (well_formed limits t k l) (Asked t k l) Unreadable (λ e. (e, r.0, rw tag r.1)) (λ e. tt)

  walked : (k₀ : Kind) → blank_kind (get_or bs 0 0) ≡ Some k₀ → (w : Walked) → RewritesBy bs (fields_of 0 k₀) w → WrittenAs bs (request_of_walk (get_or bs 0 0) w)
  walked k₀ e Broken u = tt
  walked k₀ e (Found v l) u = known (kind_from (get_or bs 0 0) v) (kind_read v (get_or bs 0 0))
    where
      known : (r : Option Kind) → Reads (get_or bs 0 0) v r → WrittenAs bs (request_from v l r)
      known None s = tt
      known (Some k) s = well (get_or v 0 0) k l s.0 (rewrites_as bs l (filled (fields_of 0 k₀) v) (fields_of (get_or v 0 0) k) u (rw e at s.1))

  writes : are_bytes bs ≡ true → WrittenAs bs (decode_step bs)
  unfolding decode_step
  writes bytes =
      picked (WrittenAs bs) (is_whole bs) (request_of_tag (get_or bs 0 0) (drop 3 bs) (blank_kind (get_or bs 0 0))) Unreadable
      (λ whole. kind whole (blank_kind (get_or bs 0 0)) refl) (λ torn. tt)
    where
      kind : is_whole bs ≡ true → (r : Option Kind) → blank_kind (get_or bs 0 0) ≡ r → WrittenAs bs (request_of_tag (get_or bs 0 0) (drop 3 bs) r)
      kind whole None e = tt
      kind whole (Some k₀) e = walked k₀ e (walk (fields_of 0 k₀) (drop 3 bs)) (record_read (fields_of 0 k₀) bs (line 0 k₀).tidy bytes whole)

writes_read_lem : (bs : List ℕ) (t : ℕ) (k : Kind) (l : List ℕ) → are_bytes bs ≡ true → decode_step bs ≡ Asked t k l → WrittenAs bs (Asked t k l)
writes_read_lem bs t k l bytes h = subst (WrittenAs bs) h (writes bs bytes)

-- ---- all else

refuses-other : (bs : List ℕ) → are_bytes bs ≡ true
    → ((t : ℕ) (k : Kind) (l : List ℕ) → well_formed limits t k l ≡ true → all_fit (fields_of t k) l ≡ true → encode_step t k l ≡ bs → ⊥)
    → decode_step bs ≡ Unreadable
refuses-other bs bytes never = read (decode_step bs) (writes bs bytes)
  where
    read : (q : Request) → WrittenAs bs q → q ≡ Unreadable
    read Unreadable w = refl
    read (Asked t k l) w = absurd (never t k l w.0 w.1 w.2)

pub step-round_trip : StepRoundTrip
step-round_trip = record {
  reads_written = reads_written_lem;
  writes_read = writes_read_lem;
  refuses = refuses-other;
  longest = λ t k l h. omega (arith, length_record (outer_tag k) (fields_of t k) l, (line t k).short l h);
  longest_is = refl;
}
