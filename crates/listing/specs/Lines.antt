-- The lines of a listing, and the order of bytes (document 02, request 5).
-- Assumes nothing.
use Rattle.std.specs.Prelude.{◌≡◌, Bool, true, false, not, cond, ◌&&◌, ◌||◌, List, [], ◌∷◌, ◌++◌, ℕ, eqb, ltb}
use Rattle.rules.specs.Lists.{all, none, has}

-- "each line ended by byte 0A"
abbrev pub line_end : ℕ
line_end = 10

-- a line: its bytes, and whether 0A ended it
pub record Line : Type 0 where
  pub bytes : List ℕ
  pub ended : Bool

-- a byte in front of the first line; where there is no line it is one that lacks 0A
abbrev pub in_front : ℕ → List Line → List Line
in_front b [] = record { bytes = b ∷ []; ended = false } ∷ []
in_front b (l ∷ ls) = record { bytes = b ∷ l.bytes; ended = l.ended } ∷ ls

-- the lines of the bytes: bytes behind the last 0A are a line that lacks it, and where there are none there is no such line
unfoldable pub lines_of : List ℕ → List Line
lines_of [] = []
lines_of (b ∷ bs) = cond (eqb b line_end) (record { bytes = []; ended = true } ∷ lines_of bs) (in_front b (lines_of bs))

-- "byte order": by the first byte that differs; a line that goes on is above the one that ends there
unfoldable pub below : List ℕ → List ℕ → Bool
below as' [] = false
below [] (b ∷ bs) = true
below (a ∷ as') (b ∷ bs) = ltb a b || (eqb a b && below as' bs)

-- ---- that these are the lines

-- the bytes of lines, each with the 0A that ended it
abbrev pub with_end : Line → List ℕ
with_end l = l.bytes ++ cond l.ended (line_end ∷ []) []

unfoldable pub joined : List Line → List ℕ
joined [] = []
joined (l ∷ ls) = with_end l ++ joined ls

-- no line has 0A inside
abbrev pub is_one_line : Line → Bool
is_one_line l = not (has line_end l.bytes)

-- a line that lacks 0A is the last, and it isn't empty
unfoldable pub last_only : List Line → Bool
last_only [] = true
last_only (l ∷ ls) = (l.ended || (not (none l.bytes) && none ls)) && last_only ls

-- claimed: bytes are cut into lines in one way, and this is it
pub record Cut : Type 0 where
  -- the lines are the bytes
  pub joins : (bytes : List ℕ) → joined (lines_of bytes) ≡ bytes
  -- each is one line, and only the last may lack 0A
  pub ones : (bytes : List ℕ) → all is_one_line (lines_of bytes) ≡ true
  pub lasts : (bytes : List ℕ) → last_only (lines_of bytes) ≡ true
  -- lines of which both can be said are those of their bytes
  pub only : (ls : List Line) → all is_one_line ls ≡ true → last_only ls ≡ true → lines_of (joined ls) ≡ ls
