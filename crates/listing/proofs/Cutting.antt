-- What the first line of some bytes is, and that bytes are cut into lines in one way.
-- Assumes nothing.
use mathlib.Core.Path.{◌≡◌, refl, sym, ap, ap₂, ◌∙◌}
use mathlib.Core.Bool.{Bool, true, false, not, cond, ◌&&◌, ◌||◌}
use mathlib.Core.List.{List, [], ◌∷◌, ◌++◌, append_assoc, append-nil}
use Prim.Native.Nat.{ℕ, suc, ◌+◌, ◌≤◌, ◌<◌}
use native.Mathlib.Numerals.{add-one, one-add}
use native.Mathlib.Omega.{arith}
use lib.Dec.{eqb, ltb}
use lib.ListN.{length, take, drop}
use borrow.Author.Tests.{ne_eqb, eqb-true, eqb-false, not-true, ltb-true, ltb-false}
use Rattle.std.specs.Prelude.{Option, Some, None}
use Rattle.std.specs.List.{position, position_or_len}
use Rattle.rules.specs.Lists.{all, any, none, has}
use Rattle.rules.proofs.Lists.{and_left, and_right, or_false-left, or_false_right}
use Rattle.listing.specs.Lines.{Line, line_end, in_front, lines_of, joined, is_one_line, last_only, Cut}

-- ---- what the first line is

pub lines_none : lines_of [] ≡ []
unfolding lines_of
lines_none = refl

-- how many bytes it has: those before the first 0A, or all
abbrev line_length : List ℕ → ℕ
line_length bytes = position_or_len (λ b. eqb b line_end) bytes

-- a line that is ended, and the lines behind its 0A
lines_next : (bytes : List ℕ) → line_length bytes < length bytes → lines_of bytes ≡ record { bytes = take (line_length bytes) bytes; ended = true } ∷ lines_of (drop (line_length bytes + 1) bytes)
unfolding lines_of
lines_next [] h = absurd (omega arith)
lines_next (b ∷ bs) h = step (eqb b line_end) (lines_next bs) h
  where
    step : (end : Bool)
        → (line_length bs < length bs → lines_of bs ≡ record { bytes = take (line_length bs) bs; ended = true } ∷ lines_of (drop (line_length bs + 1) bs))
        → cond (not end) (1 + line_length bs) 0 < suc (length bs)
        → cond end (record { bytes = []; ended = true } ∷ lines_of bs) (in_front b (lines_of bs))
        ≡ record { bytes = take (cond (not end) (1 + line_length bs) 0) (b ∷ bs); ended = true } ∷ lines_of (drop (cond (not end) (1 + line_length bs) 0 + 1) (b ∷ bs))
    step true rest h = refl
    step false rest h =
        let less : line_length bs < length bs = omega arith in
        ap (in_front b) (rest less) ∙ simp (add-one, one-add)

-- a byte in front of bytes without 0A, by whether it is one
torn-step : (end : Bool) (b : ℕ) (bs : List ℕ) → (length bs ≤ line_length bs → in_front b (lines_of bs) ≡ record { bytes = b ∷ bs; ended = false } ∷ [])
    → suc (length bs) ≤ cond (not end) (1 + line_length bs) 0
    → cond end (record { bytes = []; ended = true } ∷ lines_of bs) (in_front b (lines_of bs)) ≡ record { bytes = b ∷ bs; ended = false } ∷ []
torn-step true b bs rest h = absurd (omega arith)
torn-step false b bs rest h = rest (omega arith)

-- bytes that no 0A ends are one line that lacks it
pub lines-torn : (bytes : List ℕ) → 0 < length bytes → length bytes ≤ line_length bytes → lines_of bytes ≡ record { bytes = bytes; ended = false } ∷ []
unfolding lines_of
lines-torn [] some h = absurd (omega arith)
lines-torn (b ∷ []) some h = torn-step (eqb b line_end) b [] (λ e. refl) h
lines-torn (b ∷ c ∷ cs) some h = torn-step (eqb b line_end) b (c ∷ cs) (λ e. ap (in_front b) (lines-torn (c ∷ cs) (omega arith) e)) h

-- by where the first 0A stands, if one does
abbrev pub First : List ℕ → Option ℕ → Type 0
First bytes None = length bytes ≤ line_length bytes
First bytes (Some n) = (n < length bytes) × (lines_of bytes ≡ record { bytes = take n bytes; ended = true } ∷ lines_of (drop (n + 1) bytes))

pub first_line : (bytes : List ℕ) → First bytes (position (λ b. eqb b line_end) bytes)
first_line bytes = by (ltb (line_length bytes) (length bytes)) refl
  where
    by : (t : Bool) → ltb (line_length bytes) (length bytes) ≡ t → First bytes (cond t (Some (line_length bytes)) None)
    by true h = let less = ltb-true (line_length bytes) (length bytes) h in (less, lines_next bytes less)
    by false h = ltb-false (line_length bytes) (length bytes) h

-- ---- the lines are the bytes, each is one line, and only the last may lack 0A

joined_front : (b : ℕ) (ls : List Line) → joined (in_front b ls) ≡ b ∷ joined ls
unfolding joined
joined_front b [] = refl
joined_front b (l ∷ ls) = refl

-- a test of two bytes fails either way round
other_way : (a b : ℕ) → eqb a b ≡ false → eqb b a ≡ false
other_way a b other = ne_eqb b a (λ e. eqb-false a b other (sym e))

ones_front : (b : ℕ) (ls : List Line) → eqb b line_end ≡ false → all is_one_line ls ≡ true → all is_one_line (in_front b ls) ≡ true
unfolding all has any
ones_front b [] other h = rw (other_way b line_end other)
ones_front b (l ∷ ls) other h = rw (other_way b line_end other) h

lasts_front : (b : ℕ) (ls : List Line) → last_only ls ≡ true → last_only (in_front b ls) ≡ true
unfolding last_only none
lasts_front b [] h = refl
lasts_front b (l ∷ ls) h = step l.ended (not (none l.bytes)) (none ls) (last_only ls) h
  where
    step : (ended some alone rest : Bool) → ((ended || (some && alone)) && rest) ≡ true → ((ended || alone) && rest) ≡ true
    step true some alone rest h = h
    step false true alone rest h = h
    step false false alone rest h = cc

lines_join : (bytes : List ℕ) → joined (lines_of bytes) ≡ bytes
unfolding lines_of joined
lines_join [] = refl
lines_join (b ∷ bs) = step (eqb b line_end) refl (lines_join bs)
  where
    step : (end : Bool) → eqb b line_end ≡ end → joined (lines_of bs) ≡ bs → joined (cond end (record { bytes = []; ended = true } ∷ lines_of bs) (in_front b (lines_of bs))) ≡ b ∷ bs
    step true is h = ap₂ ◌∷◌ (sym (eqb-true b line_end is)) h
    step false is h = joined_front b (lines_of bs) ∙ ap (λ (l : List ℕ). b ∷ l) h

lines-ones : (bytes : List ℕ) → all is_one_line (lines_of bytes) ≡ true
unfolding lines_of all has any
lines-ones [] = refl
lines-ones (b ∷ bs) = step (eqb b line_end) refl (lines-ones bs)
  where
    step : (end : Bool) → eqb b line_end ≡ end → all is_one_line (lines_of bs) ≡ true → all is_one_line (cond end (record { bytes = []; ended = true } ∷ lines_of bs) (in_front b (lines_of bs))) ≡ true
    step true is h = h
    step false is h = ones_front b (lines_of bs) is h

lines-lasts : (bytes : List ℕ) → last_only (lines_of bytes) ≡ true
unfolding lines_of last_only
lines-lasts [] = refl
lines-lasts (b ∷ bs) = step (eqb b line_end) (lines-lasts bs)
  where
    step : (end : Bool) → last_only (lines_of bs) ≡ true → last_only (cond end (record { bytes = []; ended = true } ∷ lines_of bs) (in_front b (lines_of bs))) ≡ true
    step true h = h
    step false h = lasts_front b (lines_of bs) h

-- ---- and there is no other way

-- the first byte of a line is no 0A, and the others are a line's too
one-first : (b : ℕ) (bs : List ℕ) → has line_end (b ∷ bs) ≡ false → (eqb b line_end ≡ false) × (has line_end bs ≡ false)
unfolding has any
one-first b bs h = (other_way line_end b (or_false-left (eqb line_end b) (has line_end bs) h), or_false_right (eqb line_end b) (has line_end bs) h)

-- a line with its 0A in front of other bytes is the first of their lines
lines-ended : (line rest : List ℕ) → has line_end line ≡ false → lines_of (line ++ line_end ∷ rest) ≡ record { bytes = line; ended = true } ∷ lines_of rest
unfolding lines_of
lines-ended [] rest h = refl
lines-ended (b ∷ line) rest h =
    let first = one-first b line h in
    rw (first.0, lines-ended line rest first.1)

-- one that lacks it is all of its own lines
lines-alone : (line : List ℕ) → not (none line) ≡ true → has line_end line ≡ false → lines_of line ≡ record { bytes = line; ended = false } ∷ []
unfolding lines_of none
lines-alone [] some h = cc
lines-alone (b ∷ []) some h = rw (one-first b [] h).0
lines-alone (b ∷ c ∷ line) some h =
    let first = one-first b (c ∷ line) h in
    rw (first.0, lines-alone (c ∷ line) refl first.1)

-- a list that has no element
is_nil : (ls : List Line) → none ls ≡ true → ls ≡ []
unfolding none
is_nil [] h = refl
is_nil (l ∷ ls) h = cc

-- a line in front of lines that are those of their bytes
only_front : (bytes : List ℕ) (ended : Bool) (ls : List Line) → has line_end bytes ≡ false → (ended || (not (none bytes) && none ls)) ≡ true → lines_of (joined ls) ≡ ls
    → lines_of (bytes ++ cond ended (line_end ∷ []) [] ++ joined ls) ≡ record { bytes = bytes; ended = ended } ∷ ls
unfolding joined
only_front bytes true ls one last rest = rw (append_assoc, lines-ended bytes (joined ls) one, rest)
only_front bytes false ls one last rest =
    let alone = lines-alone bytes (and_left (not (none bytes)) (none ls) last) one in
    rw (is_nil ls (and_right (not (none bytes)) (none ls) last)) (simp append-nil alone)

lines-only : (ls : List Line) → all is_one_line ls ≡ true → last_only ls ≡ true → lines_of (joined ls) ≡ ls
unfolding lines_of joined all last_only
lines-only [] one last = refl
lines-only (l ∷ ls) one last =
    let placed = l.ended || (not (none l.bytes) && none ls) in
    only_front l.bytes l.ended ls (not-true (has line_end l.bytes) (and_left (is_one_line l) (all is_one_line ls) one)) (and_left placed (last_only ls) last)
    (lines-only ls (and_right (is_one_line l) (all is_one_line ls) one) (and_right placed (last_only ls) last))

pub cut : Cut
cut = record { joins = lines_join; ones = lines-ones; lasts = lines-lasts; only = lines-only }
