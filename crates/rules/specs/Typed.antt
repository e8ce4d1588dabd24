-- How the Rattle types say a request and a reply: a list is the first places of an array, and the others are 0.
-- Assumes nothing.
use Rattle.std.specs.Prelude.{Bool, false, cond, ◌&&◌, List, ◌++◌, ℕ, leb, eqb, length, take, drop, replicate}
use Rattle.rules.specs.declared.NameList.{NameList}
use Rattle.rules.specs.declared.Step.{Step}
use Rattle.rules.specs.declared.ObjectList.{ObjectList}
use Rattle.rules.specs.declared.Verdict.{Verdict}
use Rattle.rules.specs.Lists.{all}
use Rattle.rules.specs.Limits.{limits}
use Rattle.rules.specs.Table.{well_formed}
use Rattle.rules.specs.Request.{Request, Asked, Unreadable}
use Rattle.rules.specs.Step.{Reply}

-- the list in n places, the rest 0
abbrev pub padded : ℕ → List ℕ → List ℕ
padded n l = take n (l ++ replicate n 0)

-- the first count places say a list: there are that many, and the others are 0
unfoldable pub is_padded : ℕ → List ℕ → Bool
is_padded count places = leb count (length places) && all (eqb 0) (drop count places)

-- a list of at most that many names, in its places
abbrev pub name_list : List ℕ → NameList
name_list l = record { count = length l; names = padded limits.names l }

abbrev pub names_of : NameList → List ℕ
names_of l = take l.count l.names

-- what a typed step asks: one whose list's places say no list is a step that no record can say
abbrev pub request_of : Step → Request
request_of p = cond (is_padded p.list.count p.list.names) (Asked p.time p.kind (names_of p.list)) Unreadable

-- the requests that a record says: row 2 does not apply
abbrev pub can_say : Request → Bool
can_say (Asked t k l) = well_formed limits t k l
can_say Unreadable = false

-- a reply in its places
abbrev pub object_list : List ℕ → ObjectList
object_list l = record { count = length l; objects = padded limits.places l }

abbrev pub objects_of : ObjectList → List ℕ
objects_of l = take l.count l.objects

abbrev pub verdict_of : Reply → Verdict
verdict_of r = record { answer = r.answer; list = object_list r.list }
