-- The allocator is asked for the words' bytes, and what it gives is cut into slots.
use Rattle.std.proofs.Common.{◌≡◌, ◌*◌, ◌^◌, ◌<◌, true, false, List, [], ◌∷◌, length, replicate, sym, refl, ap, subst, ◌∙◌, arith, lit<, w64}
use Rattle.std.specs.Prelude.{None, Ok, Err}
use Rattle.std.proofs.lemmas.List.{length-replicate}
use Rattle.std.proofs.RcSteps.{word-Good}
use Rattle.std.proofs.ResultValues.{ok_of, err_of}
use Rattle.std.proofs.alloc.Calls.{Al, Takes, at_takes, Answered, Answer-typed, Takes-goes, Takes-gives, answers}
use Rattle.std.proofs.raw_atomic.Walks.{proved_at, leaves}
use Rattle.std.proofs.alloc.Shapes.{after, head, arm_body}
use Rattle.std.specs.contracts.result.Result as result
use Rattle.std.specs.contracts.alloc.AllocError as refusal
use base.Logic.{SProp, ent, emp}
use base.Fml.{ftrue, flft}
use mir.MapTy.{inst_fn}
use mir.Raw.{raw as bare}
use mir.Syntax.{Ty, Fn, Args, a_type, dcons, dnil, ty_int, ty_array}
use mir.Val.{Val, vint, vptr, vcons, vnil}
use prog.Capped.{capped_is}
use prog.Memory.{capped}
use prog.RawLaws.{size-raw, align-raw}
use prog.Wp.{Env, WpFn}
use contract.BorrowLft.{◌⊑◌, ⊑_trans}
use contract.Monad.{fact, fact_i}
use contract.Running.{tables}
use types.Kit.{‵, raw, ◌⊛◌, later, await, at_ret, ◌$◌, ◌∵◌, !, qed, by, move, keep, use0, use1, use2, use3, split, join, fsplit, fjoin, flt_i}
use types.Match.{live, vrt, in_variant}
use types.Part.{whole, agg}
use types.Run.{stop, fld, lit, of_opd, bin, no_more, and_then, first, switches_on, exec, returns, enter}
use types.ByLocal.{alloc_all, pass_all, free_all, look_at, get, get_in, get_tag, sets, sets_last, lands_as, env}
use denote.Builtin.{usize, RefOf}
use denote.Param.{param, bounded}
use denote.RattleType.{RattleType, owns}
use denote.RawPtr.{Ptr, block_ptr}
use denote.Signature.{plain, types_at}
use denote.Steps.{nothing, heard}
use denote.Struct.Tuple.{Tuple}
use denote.Triple.Call.{calls_at}
use denote.Triple.Table.{framed}
use denote.Triple.Walked.{Stays, stay_dropped, walk_of, Goes-dropped}
use Rattle.space_block.specs.Memory.{FitsBlock, slots}
use Rattle.space_block.specs.contracts.words.Words as words
use Rattle.space_block.specs.contracts.words.Front as front
use Rattle.space_block.specs.contracts.words.Lease as lease
use Rattle.space_block.specs.contracts.words.take.{ended, clauses}
use Rattle.space_block.specs.contracts.words.take.Key.{name as #self}
use Rattle.space_block.proofs.Slots.{of_room}
use Rattle.space_block.proofs.Walks.{then_runs}
use Rattle.space_block.proofs.Values.{front_val, front_own, front_made, bare_val, bare_own, bare_made, lease_val, lease_own, lease_made, three_val, three_made}
use Rattle.space_block.proofs.words.take.Statement.{statement}
use Rattle.space_block.proofs.words.take.Code as code

pub take_spec : {M : Type 1} → statement M
take_spec 𝓤 𝓛 𝓜 𝓡 wired A L g d dd met md =
    let H = 𝓛.H in let 𝓣 = tables 𝓤 H 𝓜 𝓡 𝓡.env in let E = ended A g d dd in let c = clauses A g d dd 𝓛 𝓜.mem 𝓡.returns in
    let args : Args = bounded (a_type ∷ []) (A, tt) (dcons d (dcons dd dnil)) in let fn : Fn = inst_fn args code.function in
    let Z : RattleType = param 0 A in let Ref = RefOf (0 ∷ []) tt (plain (λ _. Z)) (λ _. tt) in
    let hs : Stays E.signature.params E.kept = (stay_dropped Ref E.kept.0, (stay_dropped (plain (λ _. usize)) E.kept.1.0, tt)) in
    proved_at 𝓛 E hs c 𝓜 𝓡 (Goes-dropped 𝓛 2 Ref E.kept.0 (λ κs x f. refl), (Goes-dropped 𝓛 2 (plain (λ _. usize)) E.kept.1.0 (λ κs x f. refl), tt))
    (#self args) fn (code.unfolded 𝓤 H 𝓜 𝓡 wired (A, tt) d dd) (λ y₀ are.
    let κs = y₀.0.0 in let qs = y₀.0.1 in let a = y₀.0.3 in let κ = κs.0 in let q = qs.0 in
    let h = a.0.now in let handle = a.0.ref_ptr in let n = a.1.0 in
    let At : List Val × (List Val × Unit {0}) → (walk_of 𝓛 E hs c).Ghost = λ vss. ((κs, qs, y₀.0.2, a, vss), y₀.1) in
    let y : (walk_of 𝓛 E hs c).Ghost = At (vptr handle.0 handle.1 ∷ [], (vint w64 n ∷ [], tt)) in
    let Post : Val → SProp 𝓤 = (walk_of 𝓛 E hs c).post y in
    let Y : Al = record { row = A; laws = L; g = g; d = d; drops = dd } in
    let words_type : Ty = ty_array (ty_int w64) n in let τ : Ty = bare words_type in
    let Three : RattleType = Tuple (front.the_row ∷ words.the_row ∷ lease.the_row Z g ∷ []) in let Out : RattleType = result.the_row Three refusal.the_row in
    subst (λ (vss : List Val × (List Val × Unit {0})). ent 𝓤 ((walk_of 𝓛 E hs c).pre (At vss)) (WpFn 𝓤 H 𝓣.C 𝓣.Λ fn ((walk_of 𝓛 E hs c).args (At vss)) ((walk_of 𝓛 E hs c).post (At vss))))
    (λ j. (sym are.0.0 j, (sym are.1.0.0 j, tt))) (
    qed 𝓛 (((‵ (flft κ q) ⊛ ‵ (flft κs.1.0 qs.1.0) ⊛ ‵ ftrue) ⊛ ‵ (owns (types_at E.signature.params κs) a y.0.4)) ∷ (raw (fact 𝓤 (κs.1.0 ⊑ A.lives)) ⊛ raw (fact 𝓤 (FitsBlock n))) ∷ []) ∵
    move ! (1 ∷ []) $ split ! $ heard ! (κs.1.0 ⊑ A.lives) (λ le. heard ! (FitsBlock n) (λ small. split ! $ split ! $ move ! (2 ∷ []) $ fsplit ! $ fsplit ! $ keep ! (1 ∷ 3 ∷ 4 ∷ []) $
    let bytes : n * 8 < 2 ^ 64 = omega (arith, small) in
    let z = at_takes Y 𝓛 𝓜.mem 𝓡.returns κ q handle h (n * 8) 8 τ in
    enter ! 𝓣.C 𝓣.Λ fn (vptr handle.0 handle.1 ∷ vint w64 n ∷ []) Post $
    alloc_all ! (λ l. pass_all ! refl ((tt, tt), ((tt, record { fits = are.1.0.1 }), tt)) $ let En : Env 𝓤 H = env fn.locals l in let Then = then_runs 𝓛 𝓣.C 𝓣.Λ En (after 3 fn.body) (at_ret En Post) in
    sets ! (bin ! (get ! refl) (lit ! tt) (record { fits = bytes })) refl (tt, record { fits = bytes }) $
    use2 𝓛 (raw ((Takes Y 𝓛 𝓜.mem 𝓡.returns).pre z)) (Takes-goes Y 𝓛 𝓜.mem 𝓡.returns κ q handle h (⊑_trans κ κs.1.0 A.lives y₀.0.2.0 le) (n * 8) 8 τ
    (ap capped (size-raw words_type) ∙ capped_is (n * 8) bytes) (ap capped (align-raw words_type)) bytes (lit< tt)) $
    calls_at ! (framed 𝓤 H 𝓜 𝓣) (Takes Y 𝓛 𝓜.mem 𝓡.returns) (met.allocate dd) z (and_then ! (get ! refl) (and_then ! (get ! refl) (and_then ! (lit ! tt) (no_more !)))) (λ v.
    use1 𝓛 (later (raw (Answered Y 𝓛 𝓜.mem 𝓡.returns h τ v) ⊛ ‵ (flft κ q))) (Takes-gives Y 𝓛 𝓜.mem 𝓡.returns κ q handle h (n * 8) 8 τ v) $ await ! tt $ split ! $
    answers Y ! 𝓜.mem 𝓡.returns h τ v
    (λ b o e.
    let p : Ptr = block_ptr b o in let x : (front.the_row).Denot = record { start = p } in let w : (words.the_row).Denot = record { at = p; slots = replicate n None } in
    let k : (lease.the_row Z g).Denot = record { mark = record {}; at = p; count = n; alloc = h } in let made : Val = three_val (front_val p) bare_val lease_val in
    let Decoded : Type 0 = (w.at ≡ x.start) × (w.slots ≡ replicate n None) × (k.at ≡ x.start) × (k.count ≡ n) × (k.alloc ≡ h) in
    lands_as ! e refl (Answer-typed true b o) $ first ! $ switches_on ! (get_tag ! (vrt ! refl (fld ! refl (stop !))) (whole !)) $ exec ! 𝓣.C 𝓣.Λ En (arm_body 0 (head (after 2 fn.body))) Then $
    sets ! (of_opd ! (get_in ! (vrt ! refl (fld ! refl (stop !))) (in_variant ! 0 0 refl refl (whole !)))) refl (tt, tt) $ sets ! (of_opd ! (get ! refl)) refl (tt, tt) $
    sets ! (agg ! (and_then ! (get ! refl) (no_more !))) refl (word-Good [] p) $ sets ! (agg ! (no_more !)) refl (tt, tt) $
    sets ! (agg ! (no_more !)) refl (tt, tt) $ sets ! (agg ! (and_then ! (get ! refl) (no_more !))) refl (tt, (tt, tt)) $
    sets ! (agg ! (and_then ! (get ! refl) (and_then ! (get ! refl) (and_then ! (get ! refl) (no_more !))))) refl (tt, ((tt, tt), (tt, ((tt, tt), tt)))) $
    sets_last ! (agg ! (and_then ! (lit ! tt) (and_then ! (get ! refl) (no_more !)))) refl (tt, (record { fits = lit< tt }, (((tt, tt), (tt, ((tt, tt), tt))), tt))) $
    exec ! 𝓣.C 𝓣.Λ En (after 3 fn.body) (at_ret En Post) $ sets ! (of_opd ! (get ! refl)) refl (tt, (record { fits = lit< tt }, (((tt, tt), (tt, ((tt, tt), tt))), tt))) $
    -- [room for the words; the right to give them back; the tokens, in two entries]
    move ! (1 ∷ []) $ use0 𝓛 (‵ (lease_own (lease_val ∷ []))) (lease_made 𝓛) $ fjoin ! $ move ! (1 ∷ []) $
    use1 𝓛 (‵ (slots b o w.slots)) (of_room 𝓛 b n o) $
    flt_i ! (length w.slots * 8) (2 ^ 63) (subst (λ k. k * 8 < 2 ^ 63) (sym (length-replicate n None)) small) $ fjoin ! $
    use0 𝓛 (‵ (bare_own (bare_val ∷ []))) (bare_made 𝓛) $ fjoin ! $
    use0 𝓛 (‵ (front_own p (front_val p ∷ []))) (front_made 𝓛 p) $
    use3 𝓛 (‵ (Three.own_val (x, w, k) (made ∷ []))) (three_made 𝓛 front.the_row words.the_row (lease.the_row Z g) x w k (front_val p) bare_val lease_val) $
    use1 𝓛 (‵ (Out.own_val (Ok (x, w, k)) (live 0 (vcons made vnil) ∷ []))) (ok_of 𝓛 Three refusal.the_row (x, w, k) made) $
    returns ! (look_at ! 0 refl) $ free_all ! refl $ keep ! (1 ∷ 2 ∷ 0 ∷ []) $ join ! $
    use0 𝓛 (raw (fact 𝓤 Decoded)) (fact_i 𝓤 Decoded (emp 𝓤) (refl, refl, refl, refl, refl)) $ nothing ! $ nothing ! $ fjoin ! $ nothing ! $ fjoin ! $
    move ! (2 ∷ 0 ∷ 3 ∷ 1 ∷ []) $ by ! (leaves 𝓛 E hs c y (live 0 (vcons made vnil)) (Ok (x, w, k)) (tt, (tt, tt)) (tt, (tt, tt))))
    (λ e.
    let none : Val = live 1 (vcons bare_val vnil) in
    lands_as ! e refl (Answer-typed false 0 0) $ first ! $ switches_on ! (get_tag ! (vrt ! refl (fld ! refl (stop !))) (whole !)) $ exec ! 𝓣.C 𝓣.Λ En (arm_body 1 (head (after 2 fn.body))) Then $
    sets ! (of_opd ! (get_in ! (vrt ! refl (fld ! refl (stop !))) (in_variant ! 1 0 refl refl (whole !)))) refl (tt, tt) $
    sets_last ! (agg ! (and_then ! (lit ! tt) (and_then ! (get ! refl) (no_more !)))) refl (tt, (record { fits = lit< tt }, (tt, tt))) $
    exec ! 𝓣.C 𝓣.Λ En (after 3 fn.body) (at_ret En Post) $ sets ! (of_opd ! (get ! refl)) refl (tt, (record { fits = lit< tt }, (tt, tt))) $
    use0 𝓛 (‵ (bare_own (bare_val ∷ []))) (bare_made 𝓛) $
    use1 𝓛 (‵ (Out.own_val (Err (record {})) (none ∷ []))) (err_of 𝓛 Three refusal.the_row (record {}) bare_val) $
    returns ! (look_at ! 0 refl) $ free_all ! refl $ keep ! (1 ∷ 2 ∷ 0 ∷ []) $ join ! $
    use0 𝓛 (raw (fact 𝓤 (Unit {0}))) (fact_i 𝓤 (Unit {0}) (emp 𝓤) tt) $ nothing ! $ nothing ! $ fjoin ! $ nothing ! $ fjoin ! $
    move ! (2 ∷ 0 ∷ 3 ∷ 1 ∷ []) $ by ! (leaves 𝓛 E hs c y none (Err (record {})) (tt, (tt, tt)) (tt, (tt, tt))))))))))
