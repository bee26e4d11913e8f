-- The walks of the calls that differ from one another in the safe function that they call and in its fact alone. The session is lent for the
-- time of the call of that function. τ is the type of a session in memory.
use seplogic.Ra.Ura.{Ura}
use base.Logic.{emp}
use mir.Syntax.{Callee, Fn, Ty, addr_of, aggregate, assign, call, copy, deref, erased, field, local, mut, place, return, rv_opd, seq, tcons, tnil, ty_int, ty_ptr, ty_ref, ty_struct, value_local}
use prog.Model.{Model}
use prog.Wp.{Closed}
use contract.Running.{Running}
use types.Logic.{Logic, sem}
use denote.Triple.Clauses.{Clauses, closing}
use denote.Triple.Spec.{Meets}
use Rattle.cilvm_c.specs.Handles.{such_is_held}
use Rattle.cilvm_c.specs.contracts.hosts.cilvm_live
use Rattle.cilvm_c.specs.contracts.hosts.cilvm_step
use Rattle.cilvm_c.specs.contracts.hosts.cilvm_read
use Rattle.cilvm_c.specs.contracts.hosts.live
use Rattle.cilvm_c.specs.contracts.hosts.step
use Rattle.cilvm_c.specs.contracts.hosts.read
use Rattle.cilvm_c.proofs.Names.{◌<◌, ◌^◌, ℕ, List, [], ◌∷◌, ◌++◌, length, refl, w8, w32, w64, proved, full_share, id⊢, Lft, Share, ftrue, flft, named, vptr, WpFn, fact, tables, ‵, raw, ◌⊛◌, some, later, prop, ◌$◌, ◌∵◌, !, qed, done, move, keep, drop, use1, use2, split, join, fsplit, fjoin, feq_l, regoal, suffices, group, agg, sub, whole, enter, of_opd, addr, from, fld, hop, stop, no_more, and_then, returns, alloc_all, pass_all, free_all, look_at, look_in_at, get, get_in, through, sets, lands_as, u8, u32, usize, yes, uint_vals, uint_Tells, uint_Makes, uint_Lawful, owns, Ptr, RawPtr, block_ptr, in_a_block, rawptr_vals, rawptr_Tells, MutBor, plain, MutSlice, Room, mut_slice_vals, mut_slice_Tells, nothing, owned, calls_at, lasts, on_entry, triple_of, framed, Stays, walk_of, stay_dropped, gave_slice, Goes-dropped, Goes-gave_slice, ends_at, session, is_held, SessionState, lent, lends, comes_back}

-- ---- a call that is given the session alone

module _ {M : Type 1} (𝓤 : Ura M) (𝓛 : Logic 𝓤) (𝓜 : Model 𝓤 𝓛.H) (𝓡 : Running 𝓤 𝓛.H 𝓜) (P : SessionState → ℕ → SessionState → Type 0) where
  abbrev bare_call_clauses : Clauses 𝓤 cilvm_live.ended
  bare_call_clauses κs a = record { ghost = SessionState; requires = λ it. sem 𝓛 (is_held session a.0 it); ensures = λ it u ends. sem 𝓛 (such_is_held session a.0 (P it u)) }

  -- those of the safe function
  abbrev bare_call_lent : Clauses 𝓤 live.ended
  bare_call_lent κs a = record { ghost = Unit {0}; requires = λ _. emp 𝓤; ensures = λ _ u ends. fact 𝓤 (P a.0.now u ends.0.now) }

  abbrev bare_call_code : Ty → Callee → Fn
  bare_call_code τ callee = record {
    lifetimes = 0;
    outlives = [];
    ty_params = [];
    givens = 0;
    params = 1;
    locals = local (ty_int w32) value_local ∷ local ty_ptr value_local ∷ local ty_ptr value_local ∷ local (ty_ref erased mut τ) value_local ∷ [];
    body = seq (assign (place 2 []) (rv_opd (copy (place 1 [])))) (seq (assign (place 3 []) (addr_of (place 2 (deref τ ∷ [])))) (seq (call callee (copy (place 3 []) ∷ []) (place 0 [])) return));
  }

  pub bare_call : (τ : Ty) (k callee : Callee) → Closed 𝓤 𝓛.H (tables 𝓤 𝓛.H 𝓜 𝓡 𝓡.env).C (tables 𝓤 𝓛.H 𝓜 𝓡 𝓡.env).Λ k (bare_call_code τ callee)
      → Meets 𝓛 live.signature ((tables 𝓤 𝓛.H 𝓜 𝓡 𝓡.env).C callee) (closing 𝓛 live.ended bare_call_lent) → Meets 𝓛 cilvm_live.signature ((tables 𝓤 𝓛.H 𝓜 𝓡 𝓡.env).C k) (closing 𝓛 cilvm_live.ended bare_call_clauses)
  bare_call τ k callee closed met =
      let hs : Stays cilvm_live.ended.signature.params cilvm_live.ended.kept = (stay_dropped _ yes, tt) in
      let c = bare_call_clauses in let W = walk_of 𝓛 cilvm_live.ended hs c in let 𝓣 = tables 𝓤 𝓛.H 𝓜 𝓡 𝓡.env in let code = bare_call_code τ callee in
      proved 𝓛 cilvm_live.ended hs c 𝓜 𝓡
      (Goes-dropped 𝓛 0 (plain (λ _. RawPtr)) yes (λ κs x w. refl), tt)
      k code closed
      (λ κs. (rawptr_vals, tt)) (λ κs. (rawptr_Tells, tt)) (λ κs qs bounds a it are.
      let y : Ptr → W.Ghost = λ p. ((κs, qs, bounds, (p, tt), (rawptr_vals p, tt)), it) in
      qed 𝓛 (raw (on_entry 𝓛 cilvm_live.signature κs qs a (y a.0).0.4) ∷ ‵ (is_held session a.0 it) ∷ []) ∵ drop ! $
      in_a_block ! a.0 (λ p. is_held session p it) (id⊢ 𝓤 _) (λ b o e.
      regoal ! (λ p. prop (WpFn 𝓤 𝓛.H 𝓣.C 𝓣.Λ code (rawptr_vals p) (W.post (y p)))) e refl $
      enter ! _ _ _ _ _ $ alloc_all ! (λ l. pass_all ! refl ((tt, tt), tt) $
      -- let session: *mut Session = at.cast();
      sets ! (of_opd ! (get ! refl)) refl (tt, tt) $
      -- &mut *session
      sets ! (addr ! (through ! refl (stop !))) refl (tt, tt) $
      lends ! tt it b o (λ α δ.
      -- [the loan; the lender's part; the token of α; what was lent by the caller; the tokens of its lifetimes]
      let G = triple_of 𝓛 live.signature (closing 𝓛 live.ended bare_call_lent) in
      let z : G.Ghost = (((α ∷ [], tt), (full_share, tt), tt, (lent b o δ it, tt), (vptr b o ∷ [], tt)), tt) in
      nothing ! $ move ! (1 ∷ 0 ∷ []) $ join ! $
      nothing ! $ move ! (3 ∷ 0 ∷ []) $ join ! $ join ! $
      nothing ! $ move ! (1 ∷ 0 ∷ []) $ use2 𝓛 (raw (G.pre z)) (id⊢ 𝓤 _) $
      calls_at ! (framed 𝓤 𝓛.H 𝓜 𝓣) G met z
      (and_then ! (get ! refl) (no_more !)) (λ v.
      let Q : ℕ → Unit {0} → SessionState → Type 0 = λ u last after. P it u after in
      use1 𝓛 (later (some (λ (u : ℕ). ((‵ (flft (α ∷ []) full_share) ⊛ ‵ ftrue) ⊛ ‵ (u32.own_val u (v ∷ []))) ⊛
      some (λ (ws : SessionState × Unit {0}). ‵ (lasts live.ended z.0.0 z.0.3 ws) ⊛ raw (fact 𝓤 (Q u ws.1 ws.0)))))) (id⊢ 𝓤 _) $
      comes_back ! tt b o u32 Q (λ u ws is. lands_as ! refl refl ((uint_Lawful 𝓛 w32).typed u _ is).0 $
      returns ! (look_at ! 0 refl) $ free_all ! refl $ keep ! (0 ∷ 1 ∷ []) $
      suffices ! _ (ends_at 𝓛 cilvm_live.ended hs c (y (block_ptr b o)) v u (tt, tt) (tt, tt)) $
      nothing ! $ nothing ! $ join ! $ nothing ! $ group ! 3 $ done !))))))

-- ---- a call that is given the number of a thread

module _ {M : Type 1} (𝓤 : Ura M) (𝓛 : Logic 𝓤) (𝓜 : Model 𝓤 𝓛.H) (𝓡 : Running 𝓤 𝓛.H 𝓜) (P : ℕ → SessionState → ℕ → SessionState → Type 0) where
  abbrev thread_call_clauses : Clauses 𝓤 cilvm_step.ended
  thread_call_clauses κs a = record { ghost = SessionState; requires = λ it. sem 𝓛 (is_held session a.0 it); ensures = λ it u ends. sem 𝓛 (such_is_held session a.0 (P a.1.0 it u)) }

  -- those of the safe function
  abbrev thread_call_lent : Clauses 𝓤 step.ended
  thread_call_lent κs a = record { ghost = Unit {0}; requires = λ _. emp 𝓤; ensures = λ _ u ends. fact 𝓤 (P a.1.0 a.0.now u ends.0.now) }

  abbrev thread_call_code : Ty → Callee → Fn
  thread_call_code τ callee = record {
    lifetimes = 0;
    outlives = [];
    ty_params = [];
    givens = 0;
    params = 2;
    locals = local (ty_int w32) value_local ∷ local ty_ptr value_local ∷ local (ty_int w8) value_local ∷ local ty_ptr value_local ∷ local (ty_ref erased mut τ) value_local ∷ [];
    body = seq (assign (place 3 []) (rv_opd (copy (place 1 [])))) (seq (assign (place 4 []) (addr_of (place 3 (deref τ ∷ [])))) (seq (call callee (copy (place 4 []) ∷ copy (place 2 []) ∷ []) (place 0 [])) return));
  }

  pub thread_call : (τ : Ty) (k callee : Callee) → Closed 𝓤 𝓛.H (tables 𝓤 𝓛.H 𝓜 𝓡 𝓡.env).C (tables 𝓤 𝓛.H 𝓜 𝓡 𝓡.env).Λ k (thread_call_code τ callee)
      → Meets 𝓛 step.signature ((tables 𝓤 𝓛.H 𝓜 𝓡 𝓡.env).C callee) (closing 𝓛 step.ended thread_call_lent) → Meets 𝓛 cilvm_step.signature ((tables 𝓤 𝓛.H 𝓜 𝓡 𝓡.env).C k) (closing 𝓛 cilvm_step.ended thread_call_clauses)
  thread_call τ k callee closed met =
      let hs : Stays cilvm_step.ended.signature.params cilvm_step.ended.kept = (stay_dropped _ yes, (stay_dropped _ yes, tt)) in
      let c = thread_call_clauses in let W = walk_of 𝓛 cilvm_step.ended hs c in let 𝓣 = tables 𝓤 𝓛.H 𝓜 𝓡 𝓡.env in let code = thread_call_code τ callee in
      proved 𝓛 cilvm_step.ended hs c 𝓜 𝓡
      (Goes-dropped 𝓛 0 (plain (λ _. RawPtr)) yes (λ κs x w. refl), (Goes-dropped 𝓛 0 (plain (λ _. u8)) yes (λ κs x w. refl), tt))
      k code closed
      (λ κs. (rawptr_vals, (uint_vals w8, tt))) (λ κs. (rawptr_Tells, (uint_Tells w8, tt))) (λ κs qs bounds a it are.
      let thread = a.1.0 in
      let y : Ptr → W.Ghost = λ p. ((κs, qs, bounds, (p, (thread, tt)), (rawptr_vals p, (uint_vals w8 thread, tt))), it) in
      qed 𝓛 (raw (on_entry 𝓛 cilvm_step.signature κs qs a (y a.0).0.4) ∷ ‵ (is_held session a.0 it) ∷ []) ∵ drop ! $
      in_a_block ! a.0 (λ p. is_held session p it) (id⊢ 𝓤 _) (λ b o e.
      regoal ! (λ p. prop (WpFn 𝓤 𝓛.H 𝓣.C 𝓣.Λ code (rawptr_vals p ++ uint_vals w8 thread) (W.post (y p)))) e refl $
      enter ! _ _ _ _ _ $ alloc_all ! (λ l. pass_all ! refl ((tt, tt), ((tt, record { fits = are.1.0.1 }), tt)) $
      -- let session: *mut Session = at.cast();
      sets ! (of_opd ! (get ! refl)) refl (tt, tt) $
      -- &mut *session
      sets ! (addr ! (through ! refl (stop !))) refl (tt, tt) $
      lends ! tt it b o (λ α δ.
      -- [the loan; the lender's part; the token of α; what was lent by the caller; the tokens of its lifetimes]
      let G = triple_of 𝓛 step.signature (closing 𝓛 step.ended thread_call_lent) in
      let z : G.Ghost = (((α ∷ [], tt), (full_share, tt), tt, (lent b o δ it, (thread, tt)), (vptr b o ∷ [], (uint_vals w8 thread, tt))), tt) in
      nothing ! $ owned ! u8 _ (uint_Makes 𝓛 w8) thread _ (refl, are.1.0.1) $ join ! $ move ! (1 ∷ 0 ∷ []) $ join ! $
      nothing ! $ move ! (3 ∷ 0 ∷ []) $ join ! $ join ! $
      nothing ! $ move ! (1 ∷ 0 ∷ []) $ use2 𝓛 (raw (G.pre z)) (id⊢ 𝓤 _) $
      calls_at ! (framed 𝓤 𝓛.H 𝓜 𝓣) G met z
      (and_then ! (get ! refl) (and_then ! (get ! refl) (no_more !))) (λ v.
      let Q : ℕ → (Unit {0} × Unit {0}) → SessionState → Type 0 = λ u last after. P thread it u after in
      use1 𝓛 (later (some (λ (u : ℕ). ((‵ (flft (α ∷ []) full_share) ⊛ ‵ ftrue) ⊛ ‵ (u32.own_val u (v ∷ []))) ⊛
      some (λ (ws : SessionState × (Unit {0} × Unit {0})). ‵ (lasts step.ended z.0.0 z.0.3 ws) ⊛ raw (fact 𝓤 (Q u ws.1 ws.0)))))) (id⊢ 𝓤 _) $
      comes_back ! tt b o u32 Q (λ u ws is. lands_as ! refl refl ((uint_Lawful 𝓛 w32).typed u _ is).0 $
      returns ! (look_at ! 0 refl) $ free_all ! refl $ keep ! (0 ∷ 1 ∷ []) $
      suffices ! _ (ends_at 𝓛 cilvm_step.ended hs c (y (block_ptr b o)) v u (tt, (tt, tt)) (tt, (tt, tt))) $
      nothing ! $ nothing ! $ join ! $ nothing ! $ join ! $ nothing ! $ group ! 3 $ done !))))))

-- ---- a call that copies bytes from an index on to a buffer

module _ {M : Type 1} (𝓤 : Ura M) (𝓛 : Logic 𝓤) (𝓜 : Model 𝓤 𝓛.H) (𝓡 : Running 𝓤 𝓛.H 𝓜) (P : ℕ → SessionState → List ℕ → ℕ → SessionState → Type 0) where
  abbrev read_call_clauses : Clauses 𝓤 cilvm_read.ended
  read_call_clauses κs a = record { ghost = SessionState; requires = λ it. sem 𝓛 (is_held session a.0 it); ensures = λ it u ends. sem 𝓛 (such_is_held session a.0 (P a.1.0 it ends.1.1.0.now u)) }

  -- those of the safe function
  abbrev read_call_lent : Clauses 𝓤 read.ended
  read_call_lent κs a = record { ghost = Unit {0}; requires = λ _. emp 𝓤; ensures = λ _ u ends. fact 𝓤 (P a.1.0 a.0.now ends.1.1.0.now u ends.0.now) }

  abbrev read_call_code : Ty → Callee → Fn
  read_call_code τ callee = record {
    lifetimes = 1;
    outlives = [];
    ty_params = [];
    givens = 0;
    params = 3;
    locals = local (ty_int w64) value_local ∷ local ty_ptr value_local ∷ local (ty_int w64) value_local ∷ local (ty_struct (38 ∷ 91 ∷ 93 ∷ []) (tcons (ty_ref (named 0) mut (ty_int w8)) (tcons (ty_int w64) tnil))) value_local ∷ local ty_ptr value_local ∷ local (ty_ref erased mut τ) value_local ∷ local (ty_ref erased mut (ty_int w8)) value_local ∷ local (ty_struct (38 ∷ 91 ∷ 93 ∷ []) (tcons (ty_ref erased mut (ty_int w8)) (tcons (ty_int w64) tnil))) value_local ∷ [];
    body = seq (assign (place 4 []) (rv_opd (copy (place 1 [])))) (seq (assign (place 5 []) (addr_of (place 4 (deref τ ∷ [])))) (seq (assign (place 6 []) (addr_of (place 3 (field 0 ∷ deref (ty_int w8) ∷ [])))) (seq (assign (place 7 []) (aggregate (copy (place 6 []) ∷ copy (place 3 (field 1 ∷ [])) ∷ []))) (seq (call callee (copy (place 5 []) ∷ copy (place 2 []) ∷ copy (place 7 []) ∷ []) (place 0 [])) return))));
  }

  pub read_call : (τ : Ty) (k callee : Callee) → Closed 𝓤 𝓛.H (tables 𝓤 𝓛.H 𝓜 𝓡 𝓡.env).C (tables 𝓤 𝓛.H 𝓜 𝓡 𝓡.env).Λ k (read_call_code τ callee)
      → Meets 𝓛 read.signature ((tables 𝓤 𝓛.H 𝓜 𝓡 𝓡.env).C callee) (closing 𝓛 read.ended read_call_lent) → Meets 𝓛 cilvm_read.signature ((tables 𝓤 𝓛.H 𝓜 𝓡 𝓡.env).C k) (closing 𝓛 cilvm_read.ended read_call_clauses)
  read_call τ k callee closed met =
      let hs : Stays cilvm_read.ended.signature.params cilvm_read.ended.kept = (stay_dropped _ yes, (stay_dropped _ yes, (gave_slice (0 ∷ []) tt (plain (λ _. u8)), tt))) in
      let c = read_call_clauses in let W = walk_of 𝓛 cilvm_read.ended hs c in let 𝓣 = tables 𝓤 𝓛.H 𝓜 𝓡 𝓡.env in let code = read_call_code τ callee in
      proved 𝓛 cilvm_read.ended hs c 𝓜 𝓡
      (Goes-dropped 𝓛 1 (plain (λ _. RawPtr)) yes (λ κs x w. refl), (Goes-dropped 𝓛 1 (plain (λ _. usize)) yes (λ κs x w. refl), (Goes-gave_slice 𝓛 1 0 tt (plain (λ _. u8)), tt)))
      k code closed
      (λ κs. (rawptr_vals, (uint_vals w64, (mut_slice_vals, tt)))) (λ κs. (rawptr_Tells, (uint_Tells w64, (mut_slice_Tells (named 0) κs.0 u8, tt)))) (λ κs qs bounds a it are.
      let from_byte = a.1.0 in
      let κ0 : Lft = κs.0 in let q0 : Share = qs.0 in
      let to : MutBor (List ℕ) = a.1.1.0 in
      let room0 : Room u8 (length to.now) = are.1.1.0.0.1 in let count0 : length to.now < 2 ^ 64 = room0.0 in
      let y : Ptr → W.Ghost = λ p. ((κs, qs, bounds, (p, (from_byte, (to, tt))), (rawptr_vals p, (uint_vals w64 from_byte, (mut_slice_vals to, tt)))), it) in
      qed 𝓛 (((‵ (flft κ0 q0) ⊛ ‵ ftrue) ⊛ ‵ (owns (RawPtr ∷ usize ∷ MutSlice (named 0) κ0 u8 ∷ []) (a.0, (from_byte, (to, tt))) (rawptr_vals a.0, (uint_vals w64 from_byte, (mut_slice_vals to, tt))))) ∷ ‵ (is_held session a.0 it) ∷ []) ∵
      split ! $ split ! $ move ! (2 ∷ []) $ fsplit ! $ move ! (1 ∷ []) $ fsplit ! $ move ! (1 ∷ []) $ fsplit ! $ keep ! (6 ∷ 0 ∷ 4 ∷ []) $
      -- [the session; what was lent by the caller; the tokens of its lifetimes]
      in_a_block ! a.0 (λ p. is_held session p it) (id⊢ 𝓤 _) (λ b o e.
      regoal ! (λ p. prop (WpFn 𝓤 𝓛.H 𝓣.C 𝓣.Λ code (rawptr_vals p ++ (uint_vals w64 from_byte ++ mut_slice_vals to)) (W.post (y p)))) e refl $
      enter ! _ _ _ _ _ $ alloc_all ! (λ l. pass_all ! refl ((tt, tt), ((tt, record { fits = are.1.0.1 }), ((tt, (tt, (record { fits = count0 }, tt))), tt))) $
      -- let session: *mut Session = at.cast();
      sets ! (of_opd ! (get ! refl)) refl (tt, tt) $
      -- &mut *session
      sets ! (addr ! (through ! refl (stop !))) refl (tt, tt) $
      -- &mut *to
      sets ! (addr ! (from ! (fld ! refl (hop ! (look_in_at ! 3 (sub ! 0 refl (whole !))) (stop !))))) refl (tt, tt) $
      sets ! (agg ! (and_then ! (get ! refl) (and_then ! (get_in ! (fld ! refl (stop !)) (sub ! 1 refl (whole !))) (no_more !)))) refl (tt, (tt, (record { fits = count0 }, tt))) $
      lends ! tt it b o (λ α δ.
      -- [the loan; the lender's part; the token of α; what was lent by the caller; the tokens of its lifetimes]
      let G = triple_of 𝓛 read.signature (closing 𝓛 read.ended read_call_lent) in
      let z : G.Ghost = (((α ∷ [], (κ0, tt)), (full_share, (q0, tt)), tt, (lent b o δ it, (from_byte, (to, tt))), (vptr b o ∷ [], (uint_vals w64 from_byte, (mut_slice_vals to, tt)))), tt) in
      nothing ! $ move ! (4 ∷ 0 ∷ []) $ join ! $ owned ! usize _ (uint_Makes 𝓛 w64) from_byte _ (refl, are.1.0.1) $ join ! $ move ! (1 ∷ 0 ∷ []) $ join ! $
      nothing ! $ move ! (4 ∷ 0 ∷ []) $ join ! $ move ! (3 ∷ 0 ∷ []) $ join ! $ join ! $
      nothing ! $ move ! (1 ∷ 0 ∷ []) $ use2 𝓛 (raw (G.pre z)) (id⊢ 𝓤 _) $
      calls_at ! (framed 𝓤 𝓛.H 𝓜 𝓣) G met z
      (and_then ! (get ! refl) (and_then ! (get ! refl) (and_then ! (get ! refl) (no_more !)))) (λ v.
      let Q : ℕ → (Unit {0} × (List ℕ × Unit {0})) → SessionState → Type 0 = λ u last after. P from_byte it last.1.0 u after in
      use1 𝓛 (later (some (λ (u : ℕ). ((‵ (flft (α ∷ []) full_share) ⊛ (‵ (flft κ0 q0) ⊛ ‵ ftrue)) ⊛ ‵ (usize.own_val u (v ∷ []))) ⊛
      some (λ (ws : SessionState × (Unit {0} × (List ℕ × Unit {0}))). ‵ (lasts read.ended z.0.0 z.0.3 ws) ⊛ raw (fact 𝓤 (Q u ws.1 ws.0)))))) (id⊢ 𝓤 _) $
      comes_back ! tt b o usize Q (λ u ws is. lands_as ! refl refl ((uint_Lawful 𝓛 w64).typed u _ is).0 $
      -- [the result; the session; the other last values; the caller's tokens]
      move ! (2 ∷ []) $ fsplit ! $ move ! (1 ∷ []) $ fsplit ! $ fsplit ! $ fsplit ! $ move ! (1 ∷ []) $ feq_l ! (λ same. fjoin ! $
      returns ! (look_at ! 0 refl) $ free_all ! refl $ keep ! (0 ∷ 3 ∷ 4 ∷ 5 ∷ []) $
      suffices ! _ (ends_at 𝓛 cilvm_read.ended hs c (y (block_ptr b o)) v u (tt, (tt, (ws.1.1.0, tt))) (tt, (tt, (same, tt)))) $
      nothing ! $ move ! (1 ∷ 0 ∷ []) $ join ! $ nothing ! $ join ! $ nothing ! $ join ! $ move ! (3 ∷ []) $ group ! 3 $ done !)))))))
