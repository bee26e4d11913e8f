-- A word is stored at an offset.
use Rattle.std.proofs.Common.{◌≡◌, ◌+◌, ◌*◌, ◌^◌, ◌<◌, List, [], ◌∷◌, length, set, get_or, sym, refl, subst, ◌∙◌, arith, length-set, w64}
use Rattle.std.specs.Prelude.{Some, None}
use Rattle.std.proofs.RcSteps.{word-Good}
use Rattle.std.proofs.raw_atomic.Walks.{proved_at, leaves}
use Rattle.std.proofs.VecSteps.Shapes.{after}
use base.Fraction.{full_share}
use base.Logic.{SProp, ent, emp, never, id⊢}
use base.Fml.{ftrue, fat, flft, froom}
use mir.Syntax.{ty_int}
use mir.Val.{Val, vint, vptr, vunit}
use prog.Wp.{Env, WpFn}
use contract.Monad.{fact, fact_i}
use contract.Running.{tables}
use types.Kit.{‵, raw, ◌⊛◌, at_ret, ◌$◌, ◌∵◌, !, qed, by, move, keep, use0, use1, use2, split, join, rewrite, fsplit, fsplit3, fjoin, fjoin3, feq_i, flt_l, flt_i}
use types.Part.{whole, sub}
use types.Run.{stop, fld, lit, unit_lit, of_opd, bin, init, assigns_last, first, blocks, exec, returns, enter}
use types.ByLocal.{alloc_all, pass_all, free_all, look_at, get, get_in, through, sets, take_at, give_at, env}
use denote.Builtin.{u64, usize}
use denote.Memory.{lone}
use denote.Plain.{uint_in}
use denote.RattleType.{RattleType, owns}
use denote.RawPtr.{Ptr, in_a_block}
use denote.Signature.{plain, types_at}
use denote.Steps.{nothing, heard, opens, closes}
use denote.Triple.Walked.{Stays, stay_dropped, stay_ref, walk_of, Goes-dropped, Goes-ref}
use Rattle.space_block.specs.Memory.{slot, slots, words_owned}
use Rattle.space_block.specs.contracts.words.Words as words
use Rattle.space_block.specs.contracts.words.Front as front
use Rattle.space_block.specs.contracts.words.Words.write.{ended, clauses}
use Rattle.space_block.specs.contracts.words.Words.write.Key.{name as #self}
use Rattle.space_block.proofs.Slots.{Besides, slot_out, slot_in, slot_room}
use Rattle.space_block.proofs.Values.{front_val, front_decoded}
use Rattle.space_block.proofs.words.Words.write.Statement.{statement}
use Rattle.space_block.proofs.words.Words.write.Code as code

pub write_spec : {M : Type 1} → statement M
write_spec 𝓤 𝓛 𝓜 𝓡 wired =
    let H = 𝓛.H in let 𝓣 = tables 𝓤 H 𝓜 𝓡 𝓡.env in let fn = code.function in let c = clauses 𝓛 𝓜.mem 𝓡.returns in
    let R : RattleType = words.the_row in let F : RattleType = front.the_row in let kept = ended.kept in
    let hs : Stays ended.signature.params ended.kept = (stay_ref (0 ∷ []) tt (plain (λ _. R)), (stay_dropped (plain (λ _. F)) kept.1.0, (stay_dropped (plain (λ _. usize)) kept.1.1.0, (stay_dropped (plain (λ _. u64)) kept.1.1.1.0, tt)))) in
    proved_at 𝓛 ended hs c 𝓜 𝓡 (Goes-ref 𝓛 1 0 tt (plain (λ _. R)), (Goes-dropped 𝓛 1 (plain (λ _. F)) kept.1.0 (λ κs x f. refl), (Goes-dropped 𝓛 1 (plain (λ _. usize)) kept.1.1.0 (λ κs x f. refl), (Goes-dropped 𝓛 1 (plain (λ _. u64)) kept.1.1.1.0 (λ κs x f. refl), tt))))
    #self fn (code.unfolded 𝓤 H 𝓜 𝓡 wired) (λ y₀ are.
    let κs = y₀.0.0 in let qs = y₀.0.1 in let a = y₀.0.3 in
    let b = a.0.ref_ptr.0 in let o = a.0.ref_ptr.1 in let h = a.0.now in let start = a.1.0.start in let i = a.1.1.0 in let w = a.1.1.1.0 in
    let At : List Val × (List Val × (List Val × (List Val × Unit {0}))) → (walk_of 𝓛 ended hs c).Ghost = λ vss. ((κs, qs, y₀.0.2, a, vss), y₀.1) in
    let y : (walk_of 𝓛 ended hs c).Ghost = At (vptr b o ∷ [], (front_val start ∷ [], (vint w64 i ∷ [], (vint w64 w ∷ [], tt)))) in
    let Post : Val → SProp 𝓤 = (walk_of 𝓛 ended hs c).post y in
    let Asked : Type 0 = (start ≡ h.at) × (i < length h.slots) in
    let new : R.Denot = record { at = h.at; slots = set h.slots i (Some w) } in
    let Decoded : Type 0 = (new.at ≡ h.at) × (new.slots ≡ set h.slots i (Some w)) in
    subst (λ (vss : List Val × (List Val × (List Val × (List Val × Unit {0})))). ent 𝓤 ((walk_of 𝓛 ended hs c).pre (At vss)) (WpFn 𝓤 H 𝓣.C 𝓣.Λ fn ((walk_of 𝓛 ended hs c).args (At vss)) ((walk_of 𝓛 ended hs c).post (At vss))))
    (λ j. (sym are.0.0 j, (sym (front_decoded start y₀.0.4.1.0 are.1.0) j, (sym are.1.1.0.0 j, (sym are.1.1.1.0.0 j, tt))))) (
    qed 𝓛 (((‵ (flft κs.0 qs.0) ⊛ ‵ ftrue) ⊛ ‵ (owns (types_at ended.signature.params κs) a y.0.4)) ∷ raw (fact 𝓤 Asked) ∷ []) ∵
    move ! (1 ∷ []) $ heard ! Asked (λ asked. split ! $ split ! $ move ! (2 ∷ []) $ fsplit ! $ fsplit3 ! $ keep ! (1 ∷ 2 ∷ 4 ∷ []) $
    enter ! 𝓣.C 𝓣.Λ fn (vptr b o ∷ front_val start ∷ vint w64 i ∷ vint w64 w ∷ []) Post $
    alloc_all ! (λ l. pass_all ! refl ((tt, tt), (word-Good [] start, ((tt, record { fits = are.1.1.0.1 }), ((tt, record { fits = are.1.1.1.0.1 }), tt)))) $ let En : Env 𝓤 H = env fn.locals l in
    opens ! tt R {h = h} b o (λ us. move ! (1 ∷ []) $ fsplit ! $ move ! (1 ∷ []) $
    in_a_block ! h.at (λ p. words_owned p h.slots) (id⊢ 𝓤 (never 𝓤)) (λ b' o' e. fsplit ! $ flt_l ! (λ small.
    let far : i * 8 < 2 ^ 64 = omega (arith, small, asked.1) in
    take_at ! 2 $ rewrite ! 0 (λ (p : Ptr). ‵ (fat full_share (lone F.mir) (l 2) 0 (front_val p))) (asked.0 ∙ e) refl $ give_at ! 2 $ first ! $ blocks ! $
    sets ! (bin ! (get ! refl) (lit ! tt) (record { fits = far })) refl (tt, record { fits = far }) $
    sets ! (bin ! (get_in ! (fld ! refl (stop !)) (sub ! 0 refl (whole !))) (get ! refl) tt) refl (tt, tt) $
    use1 𝓛 (‵ (slot b' (i * 8 + o') (get_or h.slots i None)) ⊛ ‵ (Besides 𝓛 b' o' h.slots i)) (slot_out 𝓛 b' o' h.slots i asked.1) $ split ! $
    use1 𝓛 (‵ (froom (ty_int w64) b' (i * 8 + o'))) (slot_room 𝓛 b' (i * 8 + o') (get_or h.slots i None)) $
    -- [room for the word; the other slots; what the fields own; the struct's cell; the open borrow, in three entries]
    assigns_last ! (of_opd ! (get ! refl)) (through ! refl (stop !)) (init ! 0 refl (tt, record { fits = are.1.1.1.0.1 })) $
    exec ! 𝓣.C 𝓣.Λ En (after 1 fn.body) (at_ret En Post) $ sets ! (of_opd ! (unit_lit !)) refl (tt, tt) $
    use1 𝓛 (‵ (slot b' (i * 8 + o') (Some w))) (uint_in 𝓛 full_share w64 w b' (i * 8 + o')) $
    use2 𝓛 (‵ (slots b' o' new.slots)) (slot_in 𝓛 b' o' h.slots i asked.1 (Some w)) $
    flt_i ! (length new.slots * 8) (2 ^ 63) (subst (λ k. k * 8 < 2 ^ 63) (sym (length-set h.slots i (Some w))) small) $ fjoin ! $
    rewrite ! 0 (λ (p : Ptr). ‵ (words_owned p new.slots)) (sym e) refl $ move ! (1 ∷ 0 ∷ []) $ fjoin ! $ move ! (1 ∷ 0 ∷ []) $ closes ! tt R new us b o $
    returns ! (look_at ! 0 refl) $ free_all ! refl $ keep ! (0 ∷ 1 ∷ 2 ∷ []) $
    feq_i ! (List Val) (vptr b o ∷ []) (vptr b o ∷ []) refl $ fjoin3 ! $
    nothing ! $ nothing ! $ fjoin ! $ nothing ! $ fjoin ! $ nothing ! $ fjoin ! $ move ! (1 ∷ 0 ∷ []) $ fjoin ! $
    nothing ! $ move ! (2 ∷ 0 ∷ []) $ join ! $
    use0 𝓛 (raw (fact 𝓤 Decoded)) (fact_i 𝓤 Decoded (emp 𝓤) (refl, refl)) $ feq_i ! (List Val) (vunit ∷ []) (vunit ∷ []) refl $
    move ! (2 ∷ 3 ∷ 0 ∷ 1 ∷ []) $ by ! (leaves 𝓛 ended hs c y vunit tt (new, (tt, (tt, (tt, tt)))) (tt, (tt, (tt, (tt, tt))))))))))))
