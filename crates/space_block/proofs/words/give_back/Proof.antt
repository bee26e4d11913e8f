-- The slots are room again, and go back to the allocator with the right to free them.
use Rattle.std.proofs.Common.{◌≡◌, ℕ, ◌*◌, ◌^◌, ◌<◌, List, [], ◌∷◌, length, T, sym, refl, ap, subst, ◌∙◌, arith, lit<, w64}
use Rattle.std.proofs.RcSteps.{word-Good}
use Rattle.std.proofs.alloc.Calls.{Al, Gives, at_gives, Gives-goes, Gives-Gives, Goes-blank}
use Rattle.std.proofs.raw_atomic.Walks.{proved_at, leaves}
use Rattle.std.proofs.alloc.Shapes.{after}
use base.Logic.{SProp, ent, never, id⊢}
use base.Fml.{ftrue, flft, froom}
use mir.MapTy.{inst_fn}
use mir.Raw.{raw as bare}
use mir.Syntax.{Ty, Fn, Args, a_type, dcons, dnil, ty_int, ty_unit, ty_array}
use mir.Val.{Val, vint, vptr, vunit, has_ty, WT}
use prog.Capped.{capped_is}
use prog.Memory.{capped}
use prog.RawLaws.{size-raw, align-raw}
use prog.Wp.{Env, WpFn}
use contract.BorrowLft.{◌⊑◌, ⊑_trans}
use contract.Monad.{fact}
use contract.Running.{tables}
use types.Kit.{‵, raw, ◌⊛◌, given, later, await, learn, at_ret, ◌$◌, ◌∵◌, !, qed, by, move, keep, drop, use1, split, join, group, rewrite, fsplit, fjoin, feq_i, flt_l}
use types.Part.{whole, sub}
use types.Run.{stop, fld, lit, unit_lit, of_opd, bin, no_more, and_then, first, blocks, exec, returns, enter}
use types.ByLocal.{alloc_all, pass_all, free_all, look_at, get, get_in, is, sets, lands_last, env}
use denote.Builtin.{usize, RefOf}
use denote.Param.{param, bounded}
use denote.RattleType.{RattleType, owns}
use denote.RawPtr.{Ptr, ptr_val, in_a_block}
use denote.Signature.{plain, types_at}
use denote.Steps.{nothing, heard}
use denote.Triple.Call.{calls_at_last}
use denote.Triple.Table.{framed}
use denote.Triple.Walked.{Stays, stay_dropped, walk_of, Goes-dropped}
use Rattle.space_block.specs.Memory.{words_owned, lease_owned}
use Rattle.space_block.specs.contracts.words.Words as words
use Rattle.space_block.specs.contracts.words.Front as front
use Rattle.space_block.specs.contracts.words.Lease as lease
use Rattle.space_block.specs.contracts.words.give_back.{ended, clauses}
use Rattle.space_block.specs.contracts.words.give_back.Key.{name as #self}
use Rattle.space_block.proofs.Slots.{to_room}
use Rattle.space_block.proofs.Values.{front_val, front_decoded, bare_val, bare_decoded, lease_val, lease_decoded}
use Rattle.space_block.proofs.words.give_back.Statement.{statement}
use Rattle.space_block.proofs.words.give_back.Code as code

pub give_back_spec : {M : Type 1} → statement M
give_back_spec 𝓤 𝓛 𝓜 𝓡 wired A L g d dd met md =
    let H = 𝓛.H in let 𝓣 = tables 𝓤 H 𝓜 𝓡 𝓡.env in let E = ended A g d dd in let c = clauses A g d dd 𝓛 𝓜.mem 𝓡.returns in
    let args : Args = bounded (a_type ∷ []) (A, tt) (dcons d (dcons dd dnil)) in let fn : Fn = inst_fn args code.function in
    let Z : RattleType = param 0 A in let Ref = RefOf (0 ∷ []) tt (plain (λ _. Z)) (λ _. tt) in let F = plain (λ _. front.the_row) in let W = plain (λ _. words.the_row) in let K = plain (λ _. lease.the_row Z g) in
    let k0 = E.kept.0 in let k1 = E.kept.1.0 in let k2 = E.kept.1.1.0 in let k3 = E.kept.1.1.1.0 in let k4 = E.kept.1.1.1.1.0 in
    let hs : Stays E.signature.params E.kept = (stay_dropped Ref k0, (stay_dropped F k1, (stay_dropped (plain (λ _. usize)) k2, (stay_dropped W k3, (stay_dropped K k4, tt))))) in
    proved_at 𝓛 E hs c 𝓜 𝓡 (Goes-dropped 𝓛 2 Ref k0 (λ κs x f. refl), (Goes-dropped 𝓛 2 F k1 (λ κs x f. refl), (Goes-dropped 𝓛 2 (plain (λ _. usize)) k2 (λ κs x f. refl), (Goes-blank 𝓛 2 W k3 (λ κs x f. tt), (Goes-blank 𝓛 2 K k4 (λ κs x f. tt), tt)))))
    (#self args) fn (code.unfolded 𝓤 H 𝓜 𝓡 wired (A, tt) d dd) (λ y₀ are.
    let κs = y₀.0.0 in let qs = y₀.0.1 in let a = y₀.0.3 in let vss₀ = y₀.0.4 in let κ = κs.0 in let q = qs.0 in
    let h = a.0.now in let handle = a.0.ref_ptr in let start = a.1.0.start in let n = a.1.1.0 in let w = a.1.1.1.0 in let k = a.1.1.1.1.0 in
    let At : List Val × (List Val × (List Val × (List Val × (List Val × Unit {0})))) → (walk_of 𝓛 E hs c).Ghost = λ vss. ((κs, qs, y₀.0.2, a, vss), y₀.1) in
    let y : (walk_of 𝓛 E hs c).Ghost = At (vptr handle.0 handle.1 ∷ [], (front_val start ∷ [], (vint w64 n ∷ [], (bare_val ∷ [], (lease_val ∷ [], tt))))) in
    let Post : Val → SProp 𝓤 = (walk_of 𝓛 E hs c).post y in
    let Y : Al = record { row = A; laws = L; g = g; d = d; drops = dd } in
    let words_type : Ty = ty_array (ty_int w64) n in let τ : Ty = bare words_type in
    let Asked : Type 0 = (w.at ≡ start) × (length w.slots ≡ n) × (k.at ≡ start) × (k.count ≡ n) × (k.alloc ≡ h) in
    subst (λ (vss : List Val × (List Val × (List Val × (List Val × (List Val × Unit {0}))))). ent 𝓤 ((walk_of 𝓛 E hs c).pre (At vss)) (WpFn 𝓤 H 𝓣.C 𝓣.Λ fn ((walk_of 𝓛 E hs c).args (At vss)) ((walk_of 𝓛 E hs c).post (At vss))))
    (λ j. (sym are.0.0 j, (sym (front_decoded start vss₀.1.0 are.1.0) j, (sym are.1.1.0.0 j, (sym (bare_decoded vss₀.1.1.1.0 are.1.1.1.0.0) j, (sym (lease_decoded vss₀.1.1.1.1.0 are.1.1.1.1.0.0) j, tt)))))) (
    qed 𝓛 (((‵ (flft κ q) ⊛ ‵ (flft κs.1.0 qs.1.0) ⊛ ‵ ftrue) ⊛ ‵ (owns (types_at E.signature.params κs) a y.0.4)) ∷ (raw (fact 𝓤 (κs.1.0 ⊑ A.lives)) ⊛ raw (fact 𝓤 Asked)) ∷ []) ∵
    move ! (1 ∷ []) $ split ! $ heard ! (κs.1.0 ⊑ A.lives) (λ le. heard ! Asked (λ asked. split ! $ split ! $ move ! (2 ∷ []) $
    fsplit ! $ fsplit ! $ drop ! $ move ! (1 ∷ []) $ fsplit ! $ drop ! $ fsplit ! $ drop ! $ fsplit ! $ fsplit ! $ drop ! $ move ! (1 ∷ []) $ fsplit ! $ fsplit ! $ drop ! $
    -- [the right to free; nothing; the words; the allocator's handle; the tokens, in two entries]
    keep ! (2 ∷ 0 ∷ 3 ∷ 4 ∷ 5 ∷ []) $ rewrite ! 0 (λ (p : Ptr). ‵ (words_owned p w.slots)) asked.0 refl $
    in_a_block ! start (λ p. words_owned p w.slots) (id⊢ 𝓤 (never 𝓤)) (λ b o e. fsplit ! $ flt_l ! (λ fit.
    let small : n * 8 < 2 ^ 63 = subst (λ m. m * 8 < 2 ^ 63) asked.1 fit in let bytes : n * 8 < 2 ^ 64 = omega (arith, small) in
    let z = at_gives Y 𝓛 𝓜.mem 𝓡.returns κ q handle h b o (n * 8) 8 τ in
    use1 𝓛 (‵ (froom (ty_array (ty_int w64) (length w.slots)) b o)) (to_room 𝓛 b w.slots o) $ rewrite ! 0 (λ (m : ℕ). ‵ (froom (ty_array (ty_int w64) m) b o)) asked.1 refl $
    rewrite ! 1 (λ (u : A.Denot × Ptr × ℕ). ‵ (lease_owned (g.dealloc_token u.0) u.1 u.2)) (λ j. (asked.4 j, (asked.2 ∙ e) j, asked.3 j)) refl $
    enter ! 𝓣.C 𝓣.Λ fn (vptr handle.0 handle.1 ∷ front_val start ∷ vint w64 n ∷ bare_val ∷ lease_val ∷ []) Post $
    alloc_all ! (λ l. pass_all ! refl ((tt, tt), (word-Good [] start, ((tt, record { fits = are.1.1.0.1 }), ((tt, tt), ((tt, (tt, tt)), tt))))) $ let En : Env 𝓤 H = env fn.locals l in
    first ! $ blocks ! $
    sets ! (is ! (of_opd ! (get_in ! (fld ! refl (stop !)) (sub ! 0 refl (whole !)))) (ap ptr_val e)) refl (tt, tt) $
    sets ! (bin ! (get ! refl) (lit ! tt) (record { fits = bytes })) refl (tt, record { fits = bytes }) $
    group ! 4 $ use1 𝓛 (raw ((Gives Y 𝓛 𝓜.mem 𝓡.returns).pre z)) (Gives-goes Y 𝓛 𝓜.mem 𝓡.returns κ q handle h (⊑_trans κ κs.1.0 A.lives y₀.0.2.0 le) b o (n * 8) 8 τ
    (ap capped (size-raw words_type) ∙ capped_is (n * 8) bytes) (ap capped (align-raw words_type)) bytes (lit< tt)) $
    calls_at_last ! (framed 𝓤 H 𝓜 𝓣) (Gives Y 𝓛 𝓜.mem 𝓡.returns) (met.deallocate dd) z (and_then ! (get ! refl) (and_then ! (get ! refl) (and_then ! (get ! refl) (and_then ! (lit ! tt) (no_more !))))) (λ v.
    use1 𝓛 (later (given (v ≡ vunit) (‵ (flft κ q)))) (Gives-Gives Y 𝓛 𝓜.mem 𝓡.returns κ q handle h b o (n * 8) 8 τ v) $ await ! tt $ learn ! (λ returned.
    lands_last ! refl (subst (λ (u : Val). T (has_ty ty_unit u) × WT u) (sym returned) (tt, tt)) $ exec ! 𝓣.C 𝓣.Λ En (after 1 fn.body) (at_ret En Post) $
    sets ! (of_opd ! (unit_lit !)) refl (tt, tt) $ returns ! (look_at ! 0 refl) $ free_all ! refl $ keep ! (0 ∷ 1 ∷ []) $ join ! $
    feq_i ! (List Val) (vunit ∷ []) (vunit ∷ []) refl $ nothing ! $
    nothing ! $ nothing ! $ fjoin ! $ nothing ! $ fjoin ! $ nothing ! $ fjoin ! $ nothing ! $ fjoin ! $ nothing ! $ fjoin ! $
    move ! (3 ∷ 0 ∷ 2 ∷ 1 ∷ []) $ by ! (leaves 𝓛 E hs c y vunit tt (tt, (tt, (tt, (tt, (tt, tt))))) (tt, (tt, (tt, (tt, (tt, tt)))))))))))))))
