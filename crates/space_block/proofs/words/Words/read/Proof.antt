-- A word is read through a `&` to its owner.
use Rattle.std.proofs.Common.{◌≡◌, ℕ, ◌+◌, ◌*◌, ◌^◌, ◌<◌, List, [], ◌∷◌, get_or, sym, refl, subst, ◌∙◌, arith, w64}
use Rattle.std.specs.Prelude.{Option, Some, None}
use Rattle.std.proofs.RcSteps.{word-Good}
use Rattle.std.proofs.Words.{word_in, word_out}
use Rattle.std.proofs.raw_atomic.Walks.{proved_at, leaves}
use Rattle.std.proofs.VecSteps.Shapes.{after}
use base.Fraction.{full_share}
use base.Logic.{SProp, ent, sep, emp, never, id⊢}
use base.Fml.{Fml, ftrue, fat, flft}
use mir.Val.{Val, vint, vptr}
use prog.Wp.{Env, WpFn}
use contract.Monad.{fact, fact_i}
use contract.Running.{tables}
use types.Kit.{‵, raw, ◌⊛◌, at_ret, ◌$◌, ◌∵◌, !, qed, by, move, keep, drop, done, use0, use1, split, join, rewrite, fsplit, fjoin, feq_i, flt_l, flt_i}
use types.Logic.{sem}
use types.Part.{whole, sub}
use types.Run.{stop, fld, lit, of_opd, bin, load, look, first, blocks, exec, returns, enter}
use types.ByLocal.{alloc_all, pass_all, free_all, look_at, get, get_in, through, sets, sets_last, take_at, give_at, env}
use denote.Builtin.{u64, usize, RefOf}
use denote.Memory.{lone, hidden_shr}
use denote.Opens.{shr_dup, hide, unhide}
use denote.Plain.{uint_row_laws}
use denote.RattleType.{RattleType, owns}
use denote.RawPtr.{Ptr, in_a_block}
use denote.Signature.{plain, types_at}
use denote.Steps.{nothing, heard}
use denote.Triple.Walked.{Stays, stay_dropped, walk_of, Goes-dropped}
use Rattle.space_block.specs.Memory.{lent_word, words_lent}
use Rattle.space_block.specs.WrittenWords.{IsWritten}
use Rattle.space_block.specs.contracts.words.Words as words
use Rattle.space_block.specs.contracts.words.Front as front
use Rattle.space_block.specs.contracts.words.Words.read.{ended, clauses}
use Rattle.space_block.specs.contracts.words.Words.read.Key.{name as #self}
use Rattle.space_block.proofs.Slots.{slot_seen, written_inside}
use Rattle.space_block.proofs.Values.{front_val, front_decoded}
use Rattle.space_block.proofs.words.Words.read.Statement.{statement}
use Rattle.space_block.proofs.words.Words.read.Code as code

pub read_spec : {M : Type 1} → statement M
read_spec 𝓤 𝓛 𝓜 𝓡 wired =
    let H = 𝓛.H in let 𝓣 = tables 𝓤 H 𝓜 𝓡 𝓡.env in let fn = code.function in let c = clauses 𝓛 𝓜.mem 𝓡.returns in
    let R : RattleType = words.the_row in let F : RattleType = front.the_row in let kept = ended.kept in let Ref = RefOf (0 ∷ []) tt (plain (λ _. R)) (λ _. tt) in
    let hs : Stays ended.signature.params ended.kept = (stay_dropped Ref kept.0, (stay_dropped (plain (λ _. F)) kept.1.0, (stay_dropped (plain (λ _. usize)) kept.1.1.0, tt))) in
    proved_at 𝓛 ended hs c 𝓜 𝓡 (Goes-dropped 𝓛 1 Ref kept.0 (λ κs x f. refl), (Goes-dropped 𝓛 1 (plain (λ _. F)) kept.1.0 (λ κs x f. refl), (Goes-dropped 𝓛 1 (plain (λ _. usize)) kept.1.1.0 (λ κs x f. refl), tt)))
    #self fn (code.unfolded 𝓤 H 𝓜 𝓡 wired) (λ y₀ are.
    let κs = y₀.0.0 in let qs = y₀.0.1 in let a = y₀.0.3 in let κ = κs.0 in
    let b = a.0.ref_ptr.0 in let o = a.0.ref_ptr.1 in let h = a.0.now in let start = a.1.0.start in let i = a.1.1.0 in
    let At : List Val × (List Val × (List Val × Unit {0})) → (walk_of 𝓛 ended hs c).Ghost = λ vss. ((κs, qs, y₀.0.2, a, vss), y₀.1) in
    let y : (walk_of 𝓛 ended hs c).Ghost = At (vptr b o ∷ [], (front_val start ∷ [], (vint w64 i ∷ [], tt))) in
    let Post : Val → SProp 𝓤 = (walk_of 𝓛 ended hs c).post y in
    let Asked : Type 0 = (start ≡ h.at) × IsWritten h.slots i in
    subst (λ (vss : List Val × (List Val × (List Val × Unit {0}))). ent 𝓤 ((walk_of 𝓛 ended hs c).pre (At vss)) (WpFn 𝓤 H 𝓣.C 𝓣.Λ fn ((walk_of 𝓛 ended hs c).args (At vss)) ((walk_of 𝓛 ended hs c).post (At vss))))
    (λ j. (sym are.0.0 j, (sym (front_decoded start y₀.0.4.1.0 are.1.0) j, (sym are.1.1.0.0 j, tt)))) (
    qed 𝓛 (((‵ (flft κ qs.0) ⊛ ‵ ftrue) ⊛ ‵ (owns (types_at ended.signature.params κs) a y.0.4)) ∷ raw (fact 𝓤 Asked) ∷ []) ∵
    move ! (1 ∷ []) $ heard ! Asked (λ asked. split ! $ split ! $ move ! (2 ∷ []) $ fsplit ! $ fsplit ! $ keep ! (1 ∷ 3 ∷ []) $
    enter ! 𝓣.C 𝓣.Λ fn (vptr b o ∷ front_val start ∷ vint w64 i ∷ []) Post $
    alloc_all ! (λ l. pass_all ! refl ((tt, tt), (word-Good [] start, ((tt, record { fits = are.1.1.0.1 }), tt))) $ let En : Env 𝓤 H = env fn.locals l in
    unhide ! $ fsplit ! $ drop ! $ in_a_block ! h.at (λ p. words_lent p h.slots κ) (id⊢ 𝓤 (never 𝓤)) (λ b' o' e. fsplit ! $ flt_l ! (λ small.
    let w = asked.1.0 in let at = i * 8 + o' in let within = written_inside h.slots i w asked.1.1 in
    let far : i * 8 < 2 ^ 64 = omega (arith, small, within) in
    let Decoded : Type 0 = get_or h.slots i None ≡ Some w in let Seen : Fml = hidden_shr u64 κ w b' at in
    take_at ! 2 $ rewrite ! 0 (λ (p : Ptr). ‵ (fat full_share (lone F.mir) (l 2) 0 (front_val p))) (asked.0 ∙ e) refl $ give_at ! 2 $ first ! $ blocks ! $
    sets ! (bin ! (get ! refl) (lit ! tt) (record { fits = far })) refl (tt, record { fits = far }) $
    sets ! (bin ! (get_in ! (fld ! refl (stop !)) (sub ! 0 refl (whole !))) (get ! refl) tt) refl (tt, tt) $
    use1 𝓛 (‵ (lent_word b' at (get_or h.slots i None) κ)) (slot_seen 𝓛 b' κ o' at h.slots i within refl) $
    rewrite ! 0 (λ (p : Option ℕ). ‵ (lent_word b' at p κ)) asked.1.1 refl $ hide ! $
    word_in ! tt w b' at (qed 𝓛 (‵ Seen ∷ []) {P = sep 𝓤 (sem 𝓛 Seen) (sem 𝓛 Seen)} (shr_dup ! u64 (uint_row_laws w64) w b' at κ $ done !)) (λ q' fits.
    -- [nothing; the word; the way back; what shows it]
    drop ! $ sets_last ! (of_opd ! (load ! (through ! refl (stop !)) (look ! 0 refl))) refl (tt, record { fits = fits }) $
    exec ! 𝓣.C 𝓣.Λ En (after 1 fn.body) (at_ret En Post) $ nothing ! $ word_out ! tt w b' at fits $ sets ! (of_opd ! (get ! refl)) refl (tt, record { fits = fits }) $
    returns ! (look_at ! 0 refl) $ free_all ! refl $ keep ! (0 ∷ []) $
    nothing ! $ move ! (1 ∷ 0 ∷ []) $ join ! $
    use0 𝓛 (raw (fact 𝓤 Decoded)) (fact_i 𝓤 Decoded (emp 𝓤) asked.1.1) $ flt_i ! w (2 ^ 64) fits $ feq_i ! (List Val) (vint w64 w ∷ []) (vint w64 w ∷ []) refl $ fjoin ! $
    nothing ! $ nothing ! $ fjoin ! $ nothing ! $ fjoin ! $ nothing ! $ fjoin ! $
    move ! (3 ∷ 0 ∷ 1 ∷ 2 ∷ []) $ by ! (leaves 𝓛 ended hs c y (vint w64 w) w (tt, (tt, (tt, tt))) (tt, (tt, (tt, tt)))))))))))
