-- When a step is turned away (document 01): rows 2 to 17 of the table, each under its number, and the rows that can apply to each kind.
-- Row 1 is in Sound.antt. Liveness and activity are judged at the step's time. Assumes nothing.
use Rattle.std.specs.Prelude.{Bool, not, cond, ◌&&◌, ◌||◌, List, [], ◌∷◌, ℕ, suc, leb, ltb, eqb, length}
use Rattle.rules.specs.declared.Kind.{Kind}
use Rattle.rules.specs.declared.Kind.TheVariants.{Fence as FENCE, Put as PUT, Commit as COMMIT, Compact as COMPACT, Hold as HOLD, Renew as RENEW, Release as RELEASE, List as LIST, Look as LOOK, Collect as COLLECT}
use Rattle.rules.specs.Lists.{conj, any, none, rising_above}
use Rattle.rules.specs.Limits.{Limits, currency_limit}
use Rattle.rules.specs.State.{State, objects, epoch_of}
use Rattle.rules.specs.Words.{live_holds, is_live, active, stored, currency_of, of_currency, read_by}

-- What a record can say of a step, beside the bytes: a step of which row 2 does not apply. Only COMMIT has a list.

abbrev pub nonzero : ℕ → Bool
nonzero n = not (eqb n 0)

-- "expiry neither 0 nor at least the step's time" is refused
abbrev pub expiry_fits : ℕ → ℕ → Bool
expiry_fits t e = eqb e 0 || leb t e

unfoldable pub well_formed : Limits → ℕ → Kind → List ℕ → Bool
well_formed L t (FENCE r slot) l = none l
well_formed L t (PUT r e n c) l = conj (none l ∷ nonzero n ∷ leb c currency_limit ∷ [])
well_formed L t (COMMIT e slot) l = conj (rising_above 0 l ∷ leb (length l) L.names ∷ [])
well_formed L t (COMPACT e slot n) l = conj (none l ∷ nonzero n ∷ [])
well_formed L t (HOLD x m e) l = conj (none l ∷ nonzero x ∷ expiry_fits t e ∷ [])
well_formed L t (RENEW x e) l = conj (none l ∷ nonzero x ∷ expiry_fits t e ∷ [])
well_formed L t (RELEASE x) l = conj (none l ∷ nonzero x ∷ [])
well_formed L t (LIST x) l = none l
well_formed L t (LOOK c x) l = conj (none l ∷ nonzero c ∷ leb c currency_limit ∷ [])
well_formed L t COLLECT l = none l

-- The rows

-- "unknown kind or role; wrong fields, order or length; object 0; .." (bytes that are no step are Unreadable, in Step.antt)
abbrev pub row2 : Limits → ℕ → Kind → List ℕ → Bool
row2 L t k l = not (well_formed L t k l)

-- "time below the clock"
abbrev pub row3 : State → ℕ → Bool
row3 s t = ltb t s.clock

-- "PUT, COMMIT, COMPACT: epoch 0 or above the role's epoch"
abbrev pub row4 : ℕ → ℕ → Bool
row4 current e = eqb e 0 || ltb current e

-- "COMMIT, COMPACT: epoch below the role's epoch": fenced (000: a writer with an epoch below the current manifest's)
abbrev pub row5 : ℕ → ℕ → Bool
row5 current e = ltb e current

-- "FENCE, COMMIT, COMPACT: slot at most the current number"
abbrev pub row6 : State → ℕ → Bool
row6 s slot = leb slot s.current.number

-- "same: slot above current plus one"; with row 6 the slot is the next one, which is empty (004: the next manifest is written only if it doesn't exist)
abbrev pub row7 : State → ℕ → Bool
row7 s slot = ltb (suc s.current.number) slot

-- "COMMIT, COMPACT: a named object isn't stored"
abbrev pub row8 : State → List ℕ → Bool
row8 s l = any (λ n. not (stored s n)) l

-- "PUT: number is stored"
abbrev pub row9 : State → ℕ → Bool
row9 s n = stored s n

-- "exactly when the number isn't stored and is at most the highest number ever collected" (document 02, request 1): with row 9 a name is written once
-- (000; claimed in WriteOnce.antt), and 12 may arrive before 11
abbrev pub row10 : State → ℕ → Bool
row10 s n = leb n s.highest_collected && not (stored s n)

-- "PUT: 64 objects stored", by now 256 (document 02, request 4)
abbrev pub row11 : Limits → State → Bool
row11 L s = leb L.places (length (objects s))

-- "HOLD: a live hold has this number"
abbrev pub row12 : State → ℕ → ℕ → Bool
row12 s t x = is_live t s x

-- "HOLD: manifest not active"
abbrev pub row13 : State → ℕ → ℕ → Bool
row13 s t m = not (active t s m)

-- "HOLD: 8 live holds"
abbrev pub row14 : Limits → State → ℕ → Bool
row14 L s t = leb L.holds (length (live_holds t s))

-- "RENEW, RELEASE, LIST, LOOK: nonzero hold not live"
abbrev pub row15 : State → ℕ → ℕ → Bool
row15 s t x = nonzero x && not (is_live t s x)

-- "LOOK: no object of that currency in that manifest"
abbrev pub row16 : State → ℕ → ℕ → ℕ → Bool
row16 s t c x = none (of_currency s c (read_by t s x).names)

-- "COMPACT: no object of that currency in the current manifest"
abbrev pub row17 : State → ℕ → Bool
row17 s n = none (of_currency s (currency_of s n) s.current.names)

-- a row's number, and whether it applies
pub record Row : Type 0 where
  pub number : ℕ
  pub applies : Bool

infix 30 ◌if◌
abbrev pub ◌if◌ : ℕ → Bool → Row
n if b = record { number = n; applies = b }

-- the rows from 2 on that can apply to a kind, in rising order
unfoldable pub rows : Limits → State → ℕ → Kind → List ℕ → List Row
rows L s t (FENCE r slot) l = (2 if row2 L t (FENCE r slot) l) ∷ (3 if row3 s t) ∷ (6 if row6 s slot) ∷ (7 if row7 s slot) ∷ []
rows L s t (PUT r e n c) l =
    (2 if row2 L t (PUT r e n c) l) ∷ (3 if row3 s t) ∷ (4 if row4 (epoch_of r s.current) e) ∷ (9 if row9 s n) ∷ (10 if row10 s n) ∷ (11 if row11 L s) ∷ []
rows L s t (COMMIT e slot) l =
    (2 if row2 L t (COMMIT e slot) l) ∷ (3 if row3 s t) ∷ (4 if row4 s.current.writer_epoch e) ∷ (5 if row5 s.current.writer_epoch e)
    ∷ (6 if row6 s slot) ∷ (7 if row7 s slot) ∷ (8 if row8 s l) ∷ []
rows L s t (COMPACT e slot n) l =
    (2 if row2 L t (COMPACT e slot n) l) ∷ (3 if row3 s t) ∷ (4 if row4 s.current.compactor_epoch e) ∷ (5 if row5 s.current.compactor_epoch e)
    ∷ (6 if row6 s slot) ∷ (7 if row7 s slot) ∷ (8 if row8 s (n ∷ [])) ∷ (17 if row17 s n) ∷ []
rows L s t (HOLD x m e) l = (2 if row2 L t (HOLD x m e) l) ∷ (3 if row3 s t) ∷ (12 if row12 s t x) ∷ (13 if row13 s t m) ∷ (14 if row14 L s t) ∷ []
rows L s t (RENEW x e) l = (2 if row2 L t (RENEW x e) l) ∷ (3 if row3 s t) ∷ (15 if row15 s t x) ∷ []
rows L s t (RELEASE x) l = (2 if row2 L t (RELEASE x) l) ∷ (3 if row3 s t) ∷ (15 if row15 s t x) ∷ []
rows L s t (LIST x) l = (2 if row2 L t (LIST x) l) ∷ (3 if row3 s t) ∷ (15 if row15 s t x) ∷ []
rows L s t (LOOK c x) l = (2 if row2 L t (LOOK c x) l) ∷ (3 if row3 s t) ∷ (15 if row15 s t x) ∷ (16 if row16 s t c x) ∷ []
rows L s t COLLECT l = (2 if row2 L t COLLECT l) ∷ (3 if row3 s t) ∷ []

-- "The smallest number that applies is the verdict", the rows being in rising order; 0 where none applies
unfoldable pub first_of : List Row → ℕ
first_of [] = 0
first_of (r ∷ rs) = cond r.applies r.number (first_of rs)

-- The rows that several kinds share, as the code asks them of numbers (src/rows.rt)

-- rows 6 and 7, by the current manifest's number
abbrev pub slot_row : ℕ → ℕ → ℕ
slot_row current slot = first_of ((6 if leb slot current) ∷ (7 if ltb (suc current) slot) ∷ [])

-- row 4, by the role's epoch
abbrev pub epoch_row : ℕ → ℕ → ℕ
epoch_row current e = first_of ((4 if row4 current e) ∷ [])

-- rows 4 and 5
abbrev pub fence_row : ℕ → ℕ → ℕ
fence_row current e = first_of ((4 if row4 current e) ∷ (5 if row5 current e) ∷ [])
