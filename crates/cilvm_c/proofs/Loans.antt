-- A session is lent for the time of a call, and comes back: what all calls of a host have in common.
use Rattle.std.proofs.Common.{ℕ, List, [], ◌∷◌}
use seplogic.Ra.Ura.{Ura}
use base.Fraction.{full_share}
use base.Fml.{Fml, flft, flent, fres, fsep, fex}
use mir.Syntax.{named}
use mir.Val.{Val, vptr}
use contract.Monad.{fact}
use types.Logic.{Logic}
use types.Kit.{Goal, Item, Seq, Soaks, ‵, raw, ◌⊛◌, some, later, ◌$◌, move, drop, use1, use3, split, fsplit, fpack, pick, await}
use types.Tokens.{lft_new, lft_end}
use types.SemTy.{Body}
use denote.Laws.{Is, shows}
use denote.Lend.{lends_ref, ref_back}
use denote.Memory.{mem, part_at}
use denote.RattleType.{RattleType}
use denote.RawPtr.{block_ptr}
use denote.Ref.{MutBor, MutRef}
use denote.Steps.{heard, peeks}
use Rattle.cilvm_c.specs.Handles.{is_held, such_is_held}
use Rattle.cilvm_c.specs.Sessions.{SessionState}
use Rattle.cilvm_c.specs.contracts.sessions.Session.{the_row as session}

-- a reference to the session at (b, o)
abbrev pub lent : ℕ → ℕ → ℕ → SessionState → MutBor SessionState
lent b o δ h = record { ref_ptr = (b, o); ghost_name = δ; now = h }

-- what its lender keeps
abbrev lender : ℕ → ℕ → ℕ → ℕ → Fml
lender α δ b o = flent (α ∷ []) (Body (mem session) b o δ)

module _ {M : Type 1} {𝓤 : Ura M} {𝓛 : Logic 𝓤} {K : Type 0} {Γ : List (Item 𝓤)} {G : Goal 𝓤 𝓛.H} where
  -- the session at the head is lent for a lifetime α that is made here: the loan, the lender's part and the token of α come to the head
  pub lends : K → Soaks G → (h : SessionState) (b o : ℕ)
      → ((α δ : ℕ) → Seq K 𝓛 (‵ ((MutRef (named 0) (α ∷ []) session).own_val (lent b o δ h) (vptr b o ∷ [])) ∷ ‵ (lender α δ b o) ∷ ‵ (flft (α ∷ []) full_share) ∷ Γ) G)
      → Seq K 𝓛 (‵ (is_held session (block_ptr b o) h) ∷ Γ) G
  lends t z h b o k =
      lft_new t z (λ α. move t (1 ∷ []) $
      use1 𝓛 (later (some (λ (δ : ℕ). ‵ ((MutRef (named 0) (α ∷ []) session).own_val (lent b o δ h) (vptr b o ∷ [])) ⊛ ‵ (lender α δ b o)))) (lends_ref 𝓛 session (named 0) (α ∷ []) h b o) $
      await t z $ pick t (λ δ. split t $ k α δ))

  -- The call has returned: α ends, and the session comes back at its last value, of which P is known. The result, the session, the other last
  -- values and the caller's tokens come to the head.
  pub comes_back : K → Soaks G → {α δ : ℕ} (b o : ℕ) {tokens : Item 𝓤} (R : RattleType) {v : Val} {X : Type 0} {B O : SessionState × X → Fml} (P : R.Denot → X → SessionState → Type 0)
      → ((u : R.Denot) (ws : SessionState × X) → Is R u (v ∷ []) → Seq K 𝓛 (‵ (R.own_val u (v ∷ [])) ∷ ‵ (such_is_held session (block_ptr b o) (P u ws.1)) ∷ ‵ (O ws) ∷ tokens ∷ Γ) G)
      → Seq K 𝓛 (later (some (λ (u : R.Denot). ((‵ (flft (α ∷ []) full_share) ⊛ tokens) ⊛ ‵ (R.own_val u (v ∷ []))) ⊛
      some (λ (ws : SessionState × X). ‵ (fsep (fsep (fres δ (session.coded.code ws.0)) (B ws)) (O ws)) ⊛ raw (fact 𝓤 (P u ws.1 ws.0))))) ∷ ‵ (lender α δ b o) ∷ Γ) G
  comes_back t z {α} {δ} b o R {v = v} P k =
      await t z $ pick t (λ u. split t $ split t $ split t $ lft_end t z $
      -- [α is over; the caller's tokens; the result; the last values; the lender's part]
      move t (3 ∷ []) $ pick t (λ ws. split t $ move t (1 ∷ []) $ heard t (P u ws.1 ws.0) (λ is_so. fsplit t $ fsplit t $
      move t (3 ∷ 6 ∷ 0 ∷ []) $ use3 𝓛 (later (‵ (part_at session full_share ws.0 b o))) (ref_back 𝓛 session (α ∷ []) δ ws.0 b o) $ await t z $
      fpack t (P u ws.1 ws.0) (λ _. is_held session (block_ptr b o) ws.0) is_so $
      fpack t SessionState (λ w. fex (P u ws.1 w) (λ _. is_held session (block_ptr b o) w)) ws.0 $
      -- [the session; its borrow; the other last values; the caller's tokens; the result]
      move t (1 ∷ []) $ drop t $ move t (3 ∷ []) $ peeks t R (Is R) (shows 𝓛 R) u (v ∷ []) (λ is. k u ws is))))
