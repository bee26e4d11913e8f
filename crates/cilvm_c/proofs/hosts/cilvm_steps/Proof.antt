-- `cilvm_steps` meets its contract. The session is lent for the time of the call of `steps`.
use Rattle.cilvm_c.proofs.Names.{ℕ, [], ◌∷◌, ◌++◌, refl, w8, w32, proved, full_share, id⊢, Lft, Share, ftrue, flft, named, vptr, WpFn, fact, tables, ‵, raw, ◌⊛◌, some, later, prop, ◌$◌, ◌∵◌, !, qed, done, move, keep, use1, use2, split, join, fsplit, regoal, suffices, group, enter, of_opd, addr, stop, no_more, and_then, returns, alloc_all, pass_all, free_all, look_at, get, through, sets, lands_as, u8, u32, yes, uint_vals, uint_Tells, uint_Makes, uint_Lawful, owns, Ptr, RawPtr, block_ptr, in_a_block, rawptr_vals, rawptr_Tells, MutBor, MutRef, mut_vals, mut_Tells, plain, nothing, owned, calls_at, lasts, triple_of, framed, Stays, walk_of, stay_dropped, gave_ref, Goes-dropped, Goes-gave_ref, ends_at, session, is_held, SessionState, HasStepped, lent, lends, comes_back}
use Rattle.cilvm_c.specs.contracts.hosts.cilvm_steps as f
use Rattle.cilvm_c.proofs.hosts.cilvm_steps.Statement.{statement}
use Rattle.cilvm_c.proofs.hosts.cilvm_steps.Code as code
use Rattle.cilvm_c.specs.contracts.sessions.Session.steps as g
use Rattle.cilvm_c.proofs.sessions.Session.steps.Met.{met}

pub cilvm_steps_spec : {M : Type 1} → statement M
cilvm_steps_spec 𝓤 𝓛 𝓜 𝓡 wired =
    let hs : Stays f.ended.signature.params f.ended.kept = (stay_dropped _ yes, (stay_dropped _ yes, (stay_dropped _ yes, (gave_ref (0 ∷ []) tt (plain (λ _. u32)), tt)))) in
    let c = f.clauses 𝓛 𝓜.mem 𝓡.returns in let W = walk_of 𝓛 f.ended hs c in let 𝓣 = tables 𝓤 𝓛.H 𝓜 𝓡 𝓡.env in
    proved 𝓛 f.ended hs c 𝓜 𝓡
    (Goes-dropped 𝓛 1 (plain (λ _. RawPtr)) yes (λ κs x w. refl), (Goes-dropped 𝓛 1 (plain (λ _. u8)) yes (λ κs x w. refl), (Goes-dropped 𝓛 1 (plain (λ _. u32)) yes (λ κs x w. refl), (Goes-gave_ref 𝓛 1 0 tt (plain (λ _. u32)), tt))))
    f.Key.name code.function (code.unfolded 𝓤 𝓛.H 𝓜 𝓡 wired)
    (λ κs. (rawptr_vals, (uint_vals w8, (uint_vals w32, (mut_vals, tt))))) (λ κs. (rawptr_Tells, (uint_Tells w8, (uint_Tells w32, (mut_Tells (named 0) κs.0 u32, tt))))) (λ κs qs bounds a it are.
    let thread = a.1.0 in
    let most = a.1.1.0 in
    let κ0 : Lft = κs.0 in let q0 : Share = qs.0 in
    let count : MutBor ℕ = a.1.1.1.0 in
    let y : Ptr → W.Ghost = λ p. ((κs, qs, bounds, (p, (thread, (most, (count, tt)))), (rawptr_vals p, (uint_vals w8 thread, (uint_vals w32 most, (mut_vals count, tt))))), it) in
    qed 𝓛 (((‵ (flft κ0 q0) ⊛ ‵ ftrue) ⊛ ‵ (owns (RawPtr ∷ u8 ∷ u32 ∷ MutRef (named 0) κ0 u32 ∷ []) (a.0, (thread, (most, (count, tt)))) (rawptr_vals a.0, (uint_vals w8 thread, (uint_vals w32 most, (mut_vals count, tt)))))) ∷ ‵ (is_held session a.0 it) ∷ []) ∵
    split ! $ split ! $ move ! (2 ∷ []) $ fsplit ! $ move ! (1 ∷ []) $ fsplit ! $ move ! (1 ∷ []) $ fsplit ! $ move ! (1 ∷ []) $ fsplit ! $ keep ! (7 ∷ 0 ∷ 5 ∷ []) $
    -- [the session; what was lent by the caller; the tokens of its lifetimes]
    in_a_block ! a.0 (λ p. is_held session p it) (id⊢ 𝓤 _) (λ b o e.
    regoal ! (λ p. prop (WpFn 𝓤 𝓛.H 𝓣.C 𝓣.Λ code.function (rawptr_vals p ++ (uint_vals w8 thread ++ (uint_vals w32 most ++ mut_vals count))) (W.post (y p)))) e refl $
    enter ! _ _ _ _ _ $ alloc_all ! (λ l. pass_all ! refl ((tt, tt), ((tt, record { fits = are.1.0.1 }), ((tt, record { fits = are.1.1.0.1 }), ((tt, tt), tt)))) $
    -- let session: *mut Session = at.cast();
    sets ! (of_opd ! (get ! refl)) refl (tt, tt) $
    -- &mut *session
    sets ! (addr ! (through ! refl (stop !))) refl (tt, tt) $
    -- &mut *count
    sets ! (addr ! (through ! refl (stop !))) refl (tt, tt) $
    lends ! tt it b o (λ α δ.
    -- [the loan; the lender's part; the token of α; what was lent by the caller; the tokens of its lifetimes]
    let G = triple_of 𝓛 g.signature (g.spec 𝓛 𝓜.mem 𝓡.returns) in
    let z : G.Ghost = (((α ∷ [], (κ0, tt)), (full_share, (q0, tt)), tt, (lent b o δ it, (thread, (most, (count, tt)))), (vptr b o ∷ [], (uint_vals w8 thread, (uint_vals w32 most, (mut_vals count, tt))))), tt) in
    nothing ! $ move ! (4 ∷ 0 ∷ []) $ join ! $ owned ! u32 _ (uint_Makes 𝓛 w32) most _ (refl, are.1.1.0.1) $ join ! $ owned ! u8 _ (uint_Makes 𝓛 w8) thread _ (refl, are.1.0.1) $ join ! $ move ! (1 ∷ 0 ∷ []) $ join ! $
    nothing ! $ move ! (4 ∷ 0 ∷ []) $ join ! $ move ! (3 ∷ 0 ∷ []) $ join ! $ join ! $
    nothing ! $ move ! (1 ∷ 0 ∷ []) $ use2 𝓛 (raw (G.pre z)) (id⊢ 𝓤 _) $
    calls_at ! (framed 𝓤 𝓛.H 𝓜 𝓣) G (met 𝓤 𝓛 𝓜 𝓡 (code.calls-cilvm_c::sessions::Session::steps 𝓡.env wired)) z
    (and_then ! (get ! refl) (and_then ! (get ! refl) (and_then ! (get ! refl) (and_then ! (get ! refl) (no_more !))))) (λ v.
    let P : ℕ → (Unit {0} × (Unit {0} × (ℕ × Unit {0}))) → SessionState → Type 0 = λ u last after. HasStepped thread it most last.1.1.0 u after in
    use1 𝓛 (later (some (λ (u : ℕ). ((‵ (flft (α ∷ []) full_share) ⊛ (‵ (flft κ0 q0) ⊛ ‵ ftrue)) ⊛ ‵ (u32.own_val u (v ∷ []))) ⊛
    some (λ (ws : SessionState × (Unit {0} × (Unit {0} × (ℕ × Unit {0})))). ‵ (lasts g.ended z.0.0 z.0.3 ws) ⊛ raw (fact 𝓤 (P u ws.1 ws.0)))))) (id⊢ 𝓤 _) $
    comes_back ! tt b o u32 P (λ u ws is. lands_as ! refl refl ((uint_Lawful 𝓛 w32).typed u _ is).0 $
    -- [the result; the session; the other last values; the caller's tokens]
    move ! (2 ∷ []) $ fsplit ! $ move ! (1 ∷ []) $ fsplit ! $ move ! (1 ∷ []) $ fsplit ! $
    returns ! (look_at ! 0 refl) $ free_all ! refl $ keep ! (0 ∷ 4 ∷ 5 ∷ 6 ∷ []) $
    suffices ! _ (ends_at 𝓛 f.ended hs c (y (block_ptr b o)) v u (tt, (tt, (tt, (ws.1.1.1.0, tt)))) (tt, (tt, (tt, (tt, tt))))) $
    nothing ! $ move ! (1 ∷ 0 ∷ []) $ join ! $ nothing ! $ join ! $ nothing ! $ join ! $ nothing ! $ join ! $ move ! (3 ∷ []) $ group ! 3 $ done !))))))
