-- Step records (document 01, "Records and names"): the table of the ten kinds, the bytes of a step, and the step of bytes.
-- Assumes nothing.
use Rattle.std.specs.Prelude.{Option, Some, None, cond, ◌&&◌, List, [], ◌∷◌, ℕ, ◌+◌, ◌-◌, ◌*◌, ◌%◌, leb, eqb, length, drop, get_or, replicate}
use Rattle.std.specs.Option.{option_map}
use Rattle.fields.specs.Fields.{claimed}
use Rattle.rules.specs.declared.Role.{Role}
use Rattle.rules.specs.declared.Role.TheVariants.{Writer, Compactor}
use Rattle.rules.specs.declared.Kind.{Kind}
use Rattle.rules.specs.declared.Kind.TheVariants.{Fence as FENCE, Put as PUT, Commit as COMMIT, Compact as COMPACT, Hold as HOLD, Renew as RENEW, Release as RELEASE, List as LIST, Look as LOOK, Collect as COLLECT}
use Rattle.rules.specs.declared.Step.{Step}
use Rattle.rules.specs.Limits.{limits}
use Rattle.rules.specs.Request.{Request, Asked, Unreadable}
use Rattle.rules.specs.Typed.{can_say, name_list}
use Rattle.records.specs.declared.Field.{Field}
use Rattle.records.specs.Format.{time, role, epoch, slot, object, currency, list, hold, manifest, expiry, record_of, most_fields}
use Rattle.records.specs.Walk.{Walked, Found, Broken, walk}

-- "Outer tags in the order of the list above: FENCE 10, PUT 11, COMMIT 12, COMPACT 13, HOLD 14, RENEW 15, RELEASE 16, LIST 17, LOOK 18, COLLECT 19 (all hexadecimal)."
abbrev pub outer_tag : Kind → ℕ
outer_tag (FENCE r n) = 0x10
outer_tag (PUT r e n c) = 0x11
outer_tag (COMMIT e n) = 0x12
outer_tag (COMPACT e n o) = 0x13
outer_tag (HOLD x m e) = 0x14
outer_tag (RENEW x e) = 0x15
outer_tag (RELEASE x) = 0x16
outer_tag (LIST x) = 0x17
outer_tag (LOOK c x) = 0x18
outer_tag COLLECT = 0x19

-- the inner fields of each kind, "in rising tag order. Time first."
abbrev pub fields_of : ℕ → Kind → List Field
fields_of t (FENCE r n) = time t ∷ role r ∷ slot n ∷ []
fields_of t (PUT r e n c) = time t ∷ role r ∷ epoch e ∷ object n ∷ currency c ∷ []
fields_of t (COMMIT e n) = time t ∷ epoch e ∷ slot n ∷ list ∷ []
fields_of t (COMPACT e n o) = time t ∷ epoch e ∷ slot n ∷ object o ∷ []
fields_of t (HOLD x m e) = time t ∷ hold x ∷ manifest m ∷ expiry e ∷ []
fields_of t (RENEW x e) = time t ∷ hold x ∷ expiry e ∷ []
fields_of t (RELEASE x) = time t ∷ hold x ∷ []
fields_of t (LIST x) = time t ∷ hold x ∷ []
fields_of t (LOOK c x) = time t ∷ currency c ∷ hold x ∷ []
fields_of t COLLECT = time t ∷ []

-- the record of a step
abbrev pub encode_step : ℕ → Kind → List ℕ → List ℕ
encode_step t k l = record_of (outer_tag k) (fields_of t k) l

-- the bytes of a COMMIT with as many names as a manifest has: three for the tag and length of the record and of each field, eight for a number
abbrev pub longest_step : ℕ
longest_step = 3 + 3 * (3 + 8) + (3 + 8 * limits.names)

-- The reader

-- the role that a number says: "0 writer, 1 compactor"
abbrev pub role_of : ℕ → Option Role
role_of n = cond (eqb n 0) (Some Writer) (cond (eqb n 1) (Some Compactor) None)

abbrev pub with_role : ℕ → (Role → Kind) → Option Kind
with_role n k = option_map k (role_of n)

-- the kind of an outer tag with the numbers of its fields, the time's first
unfoldable pub kind_from : ℕ → List ℕ → Option Kind
kind_from tag v =
    cond (eqb tag 0x10) (with_role (get_or v 1 0) (λ r. FENCE r (get_or v 2 0)))
    (cond (eqb tag 0x11) (with_role (get_or v 1 0) (λ r. PUT r (get_or v 2 0) (get_or v 3 0) (get_or v 4 0 % 65536)))
    (cond (eqb tag 0x12) (Some (COMMIT (get_or v 1 0) (get_or v 2 0)))
    (cond (eqb tag 0x13) (Some (COMPACT (get_or v 1 0) (get_or v 2 0) (get_or v 3 0)))
    (cond (eqb tag 0x14) (Some (HOLD (get_or v 1 0) (get_or v 2 0) (get_or v 3 0)))
    (cond (eqb tag 0x15) (Some (RENEW (get_or v 1 0) (get_or v 2 0)))
    (cond (eqb tag 0x16) (Some (RELEASE (get_or v 1 0)))
    (cond (eqb tag 0x17) (Some (LIST (get_or v 1 0)))
    (cond (eqb tag 0x18) (Some (LOOK (get_or v 1 0 % 65536) (get_or v 2 0)))
    (cond (eqb tag 0x19) (Some COLLECT) None)))))))))

-- well formed, or no step
abbrev pub formed : Request → Request
formed q = cond (can_say q) q Unreadable

abbrev pub request_from : List ℕ → List ℕ → Option Kind → Request
request_from v l None = Unreadable
request_from v l (Some k) = formed (Asked (get_or v 0 0) k l)

abbrev pub request_of_walk : ℕ → Walked → Request
request_of_walk tag Broken = Unreadable
request_of_walk tag (Found v l) = request_from v l (kind_from tag v)

-- the fields that a record of this outer tag has are those of the kind with every number 0
abbrev pub request_of_tag : ℕ → List ℕ → Option Kind → Request
request_of_tag tag value None = Unreadable
request_of_tag tag value (Some k) = request_of_walk tag (walk (fields_of 0 k) value)

-- the request that bytes are: one field of a known outer tag and nothing behind it
unfoldable pub decode_step : List ℕ → Request
decode_step bs =
    cond (leb 3 (length bs) && eqb (claimed bs) (length bs - 3))
    (request_of_tag (get_or bs 0 0) (drop 3 bs) (kind_from (get_or bs 0 0) (replicate most_fields 0)))
    Unreadable

-- a step in its places; None is the paper's number 2
abbrev pub step_read : Request → Option Step
step_read Unreadable = None
step_read (Asked t k l) = Some (record { time = t; kind = k; list = name_list l })
