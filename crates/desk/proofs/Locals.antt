-- The locals of a function in a walk by hand. It says nothing of the crate, and can be copied as it stands.
--     Blocks, locals   a block of memory for each local, and the environment that they make
--     Slot             what a local is at a place of the code: `room`, or `has v`
--     slots E vs       the locals of E as items of a context, in the order of their numbers: each is its cell and that it dies. Where k items stand before them, local i stands at k + 2 * i
--     allocates        at the entry: every local is room, behind what stands there
--     frees-slots      at a `return`: every local is freed, whatever it holds, and what stands before them is left
--     var, field-of    an operand that is a whole local, or a field of one
--     lets             an assignment to a whole local
-- Each rule is over a `Logic`, as the kit's are. Assumes nothing.
use mathlib.Core.Path.{◌≡◌, refl, sym, subst}
use Prim.Native.Nat.{ℕ, ◌+◌}
use mathlib.Core.Option.{some}
use mathlib.Core.List.{List, [], ◌∷◌, ◌++◌, append_assoc, append-nil}
use seplogic.Ra.Ura.{Ura}
use base.Fraction.{full_share}
use mir.Syntax.{Ty, Rv as RValue, Body, place, field, copy, seq, assign, Local, local}
use mir.Val.{Val}
use base.Logic.{comm∗, via}
use base.Fml.{Share, fat, froom, fdies}
use prog.Memory.{field_of}
use prog.Wp.{Env, Calls, Loops, spot_of}
use types.Logic.{Logic}
use types.Kit.{Item, ‵, ⋆, ++⊢, ⊢++, nth, Goal, Post, runs, allocs, frees, Seq, Step, step, ◌$◌}
use types.Run.{Opd, Rv, Writes, look, stop, fld, from, load, assigns, forget, alloc1, alloc0, free1, free0}
use types.Part.{Part, look_in}

abbrev pub Blocks : List Local → Type 0
Blocks [] = Unit {0}
Blocks (l ∷ ls) = ℕ × Blocks ls

abbrev pub locals : (ls : List Local) → Blocks ls → List (Ty × ℕ)
locals [] bs = []
locals (local τ h ∷ ls) bs = (τ, bs.0) ∷ locals ls bs.1

pub data Slot : Type 0 where
  room : Slot
  has : Val → Slot

abbrev pub slots : {M : Type 1} {𝓤 : Ura M} → List (Ty × ℕ) → List Slot → List (Item 𝓤)
slots [] vs = []
slots (e ∷ E) [] = ‵ (froom e.0 e.1 0) ∷ ‵ (fdies e.0 e.1) ∷ slots E []
slots (e ∷ E) (room ∷ vs) = ‵ (froom e.0 e.1 0) ∷ ‵ (fdies e.0 e.1) ∷ slots E vs
slots (e ∷ E) (has v ∷ vs) = ‵ (fat full_share e.0 e.1 0 v) ∷ ‵ (fdies e.0 e.1) ∷ slots E vs

module _ {M : Type 1} {𝓤 : Ura M} {𝓛 : Logic 𝓤} {K : Type 0} where
  -- the context's two parts change places
  open 𝓛 use {H}

  turned : (Δ Γ : List (Item 𝓤)) {g : Goal 𝓤 H} → Seq K 𝓛 (Γ ++ Δ) g → Seq K 𝓛 (Δ ++ Γ) g
  turned Δ Γ s = record { prf = via 𝓤 _ (⊢++ 𝓛 Δ Γ) (via 𝓤 _ (comm∗ 𝓤 (⋆ 𝓛 Δ) (⋆ 𝓛 Γ)) (via 𝓤 _ (++⊢ 𝓛 Γ Δ) s.prf)) }

  pub allocates : K → (ls : List Local) (Γ : List (Item 𝓤)) {Kt : Env 𝓤 H → Goal 𝓤 H} → ((bs : Blocks ls) → Seq K 𝓛 (Γ ++ slots (locals ls bs) []) (Kt (locals ls bs))) → Seq K 𝓛 Γ (allocs ls Kt)
  allocates t [] Γ {Kt} k = alloc0 t $ subst (λ (Δ : List (Item 𝓤)). Seq K 𝓛 Δ (Kt [])) (append-nil Γ) (k tt)
  allocates t (local τ h ∷ ls) Γ {Kt} k = alloc1 t (λ b.
      turned (‵ (froom τ b 0) ∷ ‵ (fdies τ b) ∷ []) Γ (allocates t ls (Γ ++ (‵ (froom τ b 0) ∷ ‵ (fdies τ b) ∷ [])) (λ bs.
      subst (λ (Δ : List (Item 𝓤)). Seq K 𝓛 Δ (Kt ((τ, b) ∷ locals ls bs))) (sym (append_assoc Γ (‵ (froom τ b 0) ∷ ‵ (fdies τ b) ∷ []) (slots (locals ls bs) []))) (k (b, bs)))))

  module _ {g : Goal 𝓤 H} {Δ : List (Item 𝓤)} where
    freed : K → (E : Env 𝓤 H) (vs : List Slot) → Seq K 𝓛 Δ g → Seq K 𝓛 (slots E vs ++ Δ) (frees E g)
    freed t [] vs s = free0 t $ s
    freed t (e ∷ E) [] s = free1 t $ freed t E [] s
    freed t (e ∷ E) (room ∷ vs) s = free1 t $ freed t E vs s
    freed t (e ∷ E) (has v ∷ vs) s = forget t 0 refl $ free1 t $ freed t E vs s

  pub frees-slots : K → (Δ : List (Item 𝓤)) (E : Env 𝓤 H) (vs : List Slot) {g : Goal 𝓤 H} → Step K 𝓛 Δ g (Δ ++ slots E vs) (frees E g)
  frees-slots t Δ E vs = step (λ s. turned Δ (slots E vs) (freed t E vs s))

module _ {M : Type 1} {𝓤 : Ura M} {𝓛 : Logic 𝓤} {K : Type 0} {Γ : List (Item 𝓤)} {E : Env 𝓤 𝓛.H} where
  open 𝓛 use {H}

  pub var : K → (n : ℕ) {i : ℕ} {q : Share} {v : Val} → nth 𝓛 n Γ ≡ ‵ (fat q (spot_of 𝓤 H E i).0 (spot_of 𝓤 H E i).1 (spot_of 𝓤 H E i).2 v) → Opd K 𝓛 Γ E (copy (place i [])) v
  var t n is = load t (from t (stop t)) (look t n is)

  pub field_of_lem : K → (n : ℕ) {i k : ℕ} {q : Share} {τ : Ty} {d : ℕ} {v : Val} {back : Val → Item 𝓤} → field_of (spot_of 𝓤 H E i).0 k ≡ some (τ, d)
      → Part K 𝓛 (nth 𝓛 n Γ) q τ (spot_of 𝓤 H E i).1 ((spot_of 𝓤 H E i).2 + d) v back → Opd K 𝓛 Γ E (copy (place i (field k ∷ []))) v
  field_of_lem t n is p = load t (from t (fld t is (stop t))) (look_in t n p)

  pub lets : K → {C : Calls 𝓤 H} {Λ : Loops 𝓤 H} {q : Post 𝓤 H} {i : ℕ} {rv : RValue} {rest : Body} {v : Val} {Γ' : List (Item 𝓤)}
      → Rv K 𝓛 Γ E rv v → Writes K 𝓛 Γ (spot_of 𝓤 H E i).0 (spot_of 𝓤 H E i).1 (spot_of 𝓤 H E i).2 v Γ' → Step K 𝓛 Γ' (runs C Λ E rest q) Γ (runs C Λ E (seq (assign (place i []) rv) rest) q)
  lets t r w = assigns t r (from t (stop t)) w
