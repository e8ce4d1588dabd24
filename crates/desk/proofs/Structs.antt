-- A struct that owns only facts, in a walk by hand. It says nothing of the crate, and can be copied as it stands.
--     Plain            a declared type with its laws
--     Of, val, Holds   its type of Rattle, the machine value of a struct, and what whoever holds the struct knows of that value
--     typed, tells     that value is of the struct's type, and it is the only one
--     joins, parts     what is known of a struct, from and to what is known of its fields
--     has-struct, has_word     a struct is owned, and a number, from what is known of it
--     told             the machine value that a call hands back for a struct is its `val`
-- Each rule is over a `Logic`, as the kit's are. Assumes nothing.
use mathlib.Core.Path.{refl, sym, ap, subst}
use Prim.Native.Nat.{ℕ, ◌<◌, ◌^◌}
use mathlib.Core.List.{List, [], ◌∷◌}
use lib.Dec.{T}
use seplogic.Ra.Ura.{Ura}
use mir.Syntax.{Place, Body, w64}
use mir.Val.{Val, has_ty, WT, vint}
use prog.Wp.{Env, Calls, Loops}
use types.Logic.{Logic}
use types.Kit.{Item, ‵, Goal, Post, lands, Seq, Step}
use denote.RattleType.{RattleType}
use denote.Laws.{Is, Tells, valss, shows}
use denote.Memory.{lone}
use denote.Builtin.{u64}
use denote.Plain.{uint_Makes}
use denote.Steps.{only, owned, facts}
use denote.Struct.Declared.{Declared, fields, row}
use denote.Struct.Struct.{Plains, AreAll}
use denote.Struct.Laws as LL

pub record Plain : Type 2 where
  pub type : Declared
  pub laws : LL.Laws type
  pub plain : Plains (fields type)

module _ (S : Plain) where
  abbrev pub Of : RattleType
  Of = row S.type

  abbrev pub val : S.type.D → Val
  val d = LL.val S.type S.laws d

  abbrev pub Holds : S.type.D → Type 0
  Holds d = Is Of d (val d ∷ [])

  abbrev Parts : S.type.D → Type 0
  Parts d = AreAll (fields S.type) (S.type.to d) (valss (fields S.type) (LL.spells S.type.parts S.laws) (S.type.to d))

  pub tells : Tells Of (Is Of) (λ d. val d ∷ [])
  tells = LL.tells S.type S.laws

  pub joins : (d : S.type.D) → Parts d → Holds d
  joins = LL.owes S.type S.laws

  pub parts : (d : S.type.D) → Holds d → Parts d
  parts d = LL.owed S.type S.laws d _

module _ {M : Type 1} {𝓤 : Ura M} (𝓛 : Logic 𝓤) where
  pub typed : (S : Plain) → (d : S.type.D) → Holds S d → T (has_ty (lone (Of S).mir) (val S d)) × WT (val S d)
  typed S d is = ((LL.lawful S.type S.laws 𝓛).typed d _ is).0

module _ {M : Type 1} {𝓤 : Ura M} {𝓛 : Logic 𝓤} where
  open 𝓛 use {H}

  module _ {K : Type 0} {Γ : List (Item 𝓤)} where
    pub has_struct : K → (S : Plain) (d : S.type.D) {G : Goal 𝓤 H} → Holds S d → Step K 𝓛 (‵ ((Of S).own_val d (val S d ∷ [])) ∷ Γ) G Γ G
    has_struct t S d is = owned t (Of S) (Is (Of S)) (LL.makes S.type S.plain 𝓛) d _ is

    pub has_word : K → (n : ℕ) {G : Goal 𝓤 H} → n < 2 ^ 64 → Step K 𝓛 (‵ (u64.own_val n (vint w64 n ∷ [])) ∷ Γ) G Γ G
    has_word t n fits = owned t u64 (Is u64) (uint_Makes 𝓛 w64) n _ (refl, fits)

    pub told : K → (S : Plain) (d : S.type.D) (v : Val) {C : Calls 𝓤 H} {Λ : Loops 𝓤 H} {E : Env 𝓤 H} {p : Place} {rest : Body} {q : Post 𝓤 H}
        → (Holds S d → Seq K 𝓛 Γ (lands C Λ E p (val S d) rest q)) → Seq K 𝓛 (‵ ((Of S).own_val d (v ∷ [])) ∷ Γ) (lands C Λ E p v rest q)
    told t S d v {C} {Λ} {E} {p} {rest} {q} k = facts t (Of S) (Is (Of S)) (shows 𝓛 (Of S)) d (v ∷ []) (λ is.
        subst (λ (w : Val). Seq K 𝓛 Γ (lands C Λ E p w rest q)) (sym (ap only (tells S d (v ∷ []) is))) (k (subst (Is (Of S) d) (tells S d (v ∷ []) is) is)))
