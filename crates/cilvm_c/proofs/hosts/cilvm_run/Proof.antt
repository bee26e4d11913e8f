-- `cilvm_run` meets its contract. The session is lent for the time of the call of `run`.
use Rattle.cilvm_c.proofs.Names.{◌<◌, ◌^◌, ℕ, List, [], ◌∷◌, ◌++◌, length, refl, w32, proved, full_share, id⊢, Lft, Share, ftrue, flft, named, vptr, WpFn, fact, tables, ‵, raw, ◌⊛◌, some, later, prop, ◌$◌, ◌∵◌, !, qed, done, move, keep, use1, use2, split, join, fsplit, regoal, suffices, group, enter, of_opd, addr, stop, no_more, and_then, returns, alloc_all, pass_all, free_all, look_at, get, through, sets, lands_as, u8, u32, u64, yes, uint_Lawful, owns, Ptr, RawPtr, block_ptr, in_a_block, rawptr_vals, rawptr_Tells, Bor, MutBor, MutRef, mut_vals, mut_Tells, plain, shr_slice_of, ShrSlice, Room, shr_slice_vals, shr_slice_Tells, nothing, calls_at, lasts, triple_of, framed, Stays, walk_of, stay_dropped, gave_ref, Goes-dropped, Goes-gave_ref, ends_at, session, is_held, SessionState, HasRunText, lent, lends, comes_back}
use Rattle.cilvm_c.specs.contracts.hosts.cilvm_run as f
use Rattle.cilvm_c.proofs.hosts.cilvm_run.Statement.{statement}
use Rattle.cilvm_c.proofs.hosts.cilvm_run.Code as code
use Rattle.cilvm_c.specs.contracts.sessions.Session.run as g
use Rattle.cilvm_c.proofs.sessions.Session.run.Met.{met}

pub cilvm_run_spec : {M : Type 1} → statement M
cilvm_run_spec 𝓤 𝓛 𝓜 𝓡 wired =
    let hs : Stays f.ended.signature.params f.ended.kept = (stay_dropped _ yes, (stay_dropped _ yes, (gave_ref (1 ∷ []) tt (plain (λ _. u64)), tt))) in
    let c = f.clauses 𝓛 𝓜.mem 𝓡.returns in let W = walk_of 𝓛 f.ended hs c in let 𝓣 = tables 𝓤 𝓛.H 𝓜 𝓡 𝓡.env in
    proved 𝓛 f.ended hs c 𝓜 𝓡
    (Goes-dropped 𝓛 2 (plain (λ _. RawPtr)) yes (λ κs x w. refl), (Goes-dropped 𝓛 2 (shr_slice_of (0 ∷ []) tt (plain (λ _. u8))) yes (λ κs x w. refl), (Goes-gave_ref 𝓛 2 1 tt (plain (λ _. u64)), tt)))
    f.Key.name code.function (code.unfolded 𝓤 𝓛.H 𝓜 𝓡 wired)
    (λ κs. (rawptr_vals, (shr_slice_vals, (mut_vals, tt)))) (λ κs. (rawptr_Tells, (shr_slice_Tells (named 0) κs.0 u8, (mut_Tells (named 1) κs.1.0 u64, tt)))) (λ κs qs bounds a it are.
    let κ0 : Lft = κs.0 in let q0 : Share = qs.0 in
    let text : Bor (List ℕ) = a.1.0 in
    let room0 : Room u8 (length text.now) = are.1.0.0.1 in let count0 : length text.now < 2 ^ 64 = room0.0 in
    let κ1 : Lft = κs.1.0 in let q1 : Share = qs.1.0 in
    let count : MutBor ℕ = a.1.1.0 in
    let y : Ptr → W.Ghost = λ p. ((κs, qs, bounds, (p, (text, (count, tt))), (rawptr_vals p, (shr_slice_vals text, (mut_vals count, tt)))), it) in
    qed 𝓛 (((‵ (flft κ0 q0) ⊛ (‵ (flft κ1 q1) ⊛ ‵ ftrue)) ⊛ ‵ (owns (RawPtr ∷ ShrSlice (named 0) κ0 u8 ∷ MutRef (named 1) κ1 u64 ∷ []) (a.0, (text, (count, tt))) (rawptr_vals a.0, (shr_slice_vals text, (mut_vals count, tt))))) ∷ ‵ (is_held session a.0 it) ∷ []) ∵
    split ! $ split ! $ move ! (1 ∷ []) $ split ! $ move ! (3 ∷ []) $ fsplit ! $ move ! (1 ∷ []) $ fsplit ! $ move ! (1 ∷ []) $ fsplit ! $ keep ! (7 ∷ 2 ∷ 0 ∷ 6 ∷ 4 ∷ []) $
    -- [the session; what was lent by the caller; the tokens of its lifetimes]
    in_a_block ! a.0 (λ p. is_held session p it) (id⊢ 𝓤 _) (λ b o e.
    regoal ! (λ p. prop (WpFn 𝓤 𝓛.H 𝓣.C 𝓣.Λ code.function (rawptr_vals p ++ (shr_slice_vals text ++ mut_vals count)) (W.post (y p)))) e refl $
    enter ! _ _ _ _ _ $ alloc_all ! (λ l. pass_all ! refl ((tt, tt), ((tt, (tt, (record { fits = count0 }, tt))), ((tt, tt), tt))) $
    -- let session: *mut Session = at.cast();
    sets ! (of_opd ! (get ! refl)) refl (tt, tt) $
    -- &mut *session
    sets ! (addr ! (through ! refl (stop !))) refl (tt, tt) $
    -- &mut *count
    sets ! (addr ! (through ! refl (stop !))) refl (tt, tt) $
    lends ! tt it b o (λ α δ.
    -- [the loan; the lender's part; the token of α; what was lent by the caller; the tokens of its lifetimes]
    let G = triple_of 𝓛 g.signature (g.spec 𝓛 𝓜.mem 𝓡.returns) in
    let z : G.Ghost = (((α ∷ [], (κ0, (κ1, tt))), (full_share, (q0, (q1, tt))), tt, (lent b o δ it, (text, (count, tt))), (vptr b o ∷ [], (shr_slice_vals text, (mut_vals count, tt)))), tt) in
    nothing ! $ move ! (5 ∷ 0 ∷ []) $ join ! $ move ! (4 ∷ 0 ∷ []) $ join ! $ move ! (1 ∷ 0 ∷ []) $ join ! $
    nothing ! $ move ! (5 ∷ 0 ∷ []) $ join ! $ move ! (4 ∷ 0 ∷ []) $ join ! $ move ! (3 ∷ 0 ∷ []) $ join ! $ join ! $
    nothing ! $ move ! (1 ∷ 0 ∷ []) $ use2 𝓛 (raw (G.pre z)) (id⊢ 𝓤 _) $
    calls_at ! (framed 𝓤 𝓛.H 𝓜 𝓣) G (met 𝓤 𝓛 𝓜 𝓡 (code.calls-cilvm_c::sessions::Session::run 𝓡.env wired)) z
    (and_then ! (get ! refl) (and_then ! (get ! refl) (and_then ! (get ! refl) (no_more !)))) (λ v.
    let P : ℕ → (Unit {0} × (ℕ × Unit {0})) → SessionState → Type 0 = λ u last after. HasRunText text.now it last.1.0 u after in
    use1 𝓛 (later (some (λ (u : ℕ). ((‵ (flft (α ∷ []) full_share) ⊛ (‵ (flft κ0 q0) ⊛ (‵ (flft κ1 q1) ⊛ ‵ ftrue))) ⊛ ‵ (u32.own_val u (v ∷ []))) ⊛
    some (λ (ws : SessionState × (Unit {0} × (ℕ × Unit {0}))). ‵ (lasts g.ended z.0.0 z.0.3 ws) ⊛ raw (fact 𝓤 (P u ws.1 ws.0)))))) (id⊢ 𝓤 _) $
    comes_back ! tt b o u32 P (λ u ws is. lands_as ! refl refl ((uint_Lawful 𝓛 w32).typed u _ is).0 $
    -- [the result; the session; the other last values; the caller's tokens]
    move ! (2 ∷ []) $ fsplit ! $ move ! (1 ∷ []) $ fsplit ! $
    returns ! (look_at ! 0 refl) $ free_all ! refl $ keep ! (0 ∷ 3 ∷ 4 ∷ 5 ∷ []) $
    suffices ! _ (ends_at 𝓛 f.ended hs c (y (block_ptr b o)) v u (tt, (tt, (ws.1.1.0, tt))) (tt, (tt, (tt, tt)))) $
    nothing ! $ move ! (1 ∷ 0 ∷ []) $ join ! $ nothing ! $ join ! $ nothing ! $ join ! $ move ! (3 ∷ []) $ group ! 3 $ done !))))))
