-- The rule holds at the making, and the giving out of a writer keeps it.
use Rattle.std.proofs.Common.{Bool, true, false, ◌≡◌, ◌≢◌, ℕ, zero, suc, ◌+◌, ◌^◌, ◌<◌, ◌≤◌, List, [], ◌∷◌, ◌++◌, length, get_or, set, replicate, sym, refl, ap, ◌∙◌, subst, ⊎_elim, inl, inr, arith, length-set, length-append}
use Rattle.std.proofs.lemmas.List.{length-replicate}
use mathlib.Core.Option.{some, some-injective, some-ne-none}
use lib.ListN.{get_elem?}
use Rattle.atomic_table.specs.Table.{State, Splits, opening}
use Rattle.atomic_table.proofs.Lists.{at_set, at_longer, set_here}
use Rattle.flip_table.specs.declared.slot_table.CopierView.{CopierView}
use Rattle.flip_table.specs.declared.slot_table.PlanView.{PlanView}
use Rattle.flip_table.specs.declared.slot_table.View.{View}
use Rattle.flip_table.specs.declared.slot_table.View.TheVariants.{OfWriter, OfCopier}
use Rattle.flip_table.specs.declared.slot_table.WriterView.{WriterView}
use Rattle.flip_table.specs.Rule.{forward, dealt_copier, initial_writer, initial_view, IsCopierView, Knows, KeepsFlip}
use Rattle.flip_table.specs.Steps.{Holder, dealing_copier, dealt_writer, writer_part}
use Rattle.epoch_words.proofs.Views.{at_inside, at_end, changed, longer}
use Rattle.flip_table.proofs.StepsKeep.{Slot, Twin, copier_of, owner}

abbrev Table : Type 0
Table = State (Unit {0}) View

-- every element of such a list is its filling
blank : {A : Type 0} (count i : ℕ) (a : A) → get_or (replicate count a) i a ≡ a
blank zero i a = refl
blank (suc count) zero a = refl
blank (suc count) (suc i) a = blank count i a

-- what others know, once there is one position more
joined_others : (plan : PlanView) (ws : List ℕ) (positions more j : ℕ) (v : View) → j ≢ 0 → Knows ws plan positions j v → Knows ws plan more j v
joined_others plan ws positions more j (OfWriter q) ne k = k
joined_others plan ws positions more j (OfCopier p) ne k = absurd (ne k.position_is)

deals_at : (plan : PlanView) (id : ℕ) (p : CopierView) → p.plan ≡ plan → p.dealt < plan.seats → Splits (KeepsFlip plan) id (OfCopier p) (dealing_copier (OfCopier p)) (dealt_writer (OfCopier p))
deals_at plan id p of room s r at = let k : IsCopierView s.words plan (length s.views) id p = r.known id (OfCopier p) at in let p' : CopierView = record p { dealt = p.dealt + 1 } in let left : View = OfCopier p' in
    let q' : WriterView = initial_writer p.plan p.dealt in let right : View = OfWriter q' in let positions : ℕ = length s.views + 1 in let is = copier_of plan s r id p at in
    let len : length (set s.views id left) ≡ length s.views = length-set s.views id left in
    let wide : length p.plan.owners ≡ length plan.owners = ap (λ (z : PlanView). length z.owners) of in
    let written : (i : ℕ) → get_or q'.written i 0 ≡ 0 = λ i. blank (length p.plan.owners) i 0 in
    let more : length (set s.views id left ++ right ∷ []) ≡ positions = length-append (set s.views id left) (right ∷ []) ∙ ap (λ (x : ℕ). x + 1) len in record {
      words_are = r.words_are;
      owned = r.owned;
      within_one_stage = r.within_one_stage;
      known = λ j v e. subst (λ (x : ℕ). Knows s.words plan x j v) (sym more) (longer (Knows s.words plan positions) (set s.views id left) right
          record {
            plan_is = of;
            position_is = len ∙ k.positions_are;
            in_range = room;
            taken_up_is = k.undealt_is p.dealt (omega arith) room;
            taken_up_polled = omega arith;
            polled_stage = omega arith;
            written_each = length-replicate {A = ℕ} (length p.plan.owners) 0 ∙ wide;
            wrote_written = λ i _. inl (written i);
            none_pending = λ _. refl;
          }
          (changed (Knows s.words plan positions) s.views id left
          record {
            plan_is = k.plan_is;
            position_is = k.position_is;
            positions_are = ap (λ (x : ℕ). x + 1) k.positions_are;
            stage_is = k.stage_is;
            last = k.last;
            found_each = k.found_each;
            found_since = k.found_since;
            undealt_is = λ i l h. k.undealt_is i (omega arith) h;
            copied_each = k.copied_each;
            retired_each = k.retired_each;
            all_copied = k.all_copied;
            all_found = k.all_found;
          }
          (λ a b ne h. joined_others plan s.words (length s.views) positions a b (λ e. ne (e ∙ sym k.position_is)) (r.known a b h))) j v e);
      copier = p';
      copier_is = at_longer (set s.views id left) (right ∷ []) 0 left (ap (λ (x : ℕ). get_elem? (set s.views id left) x) (sym k.position_is) ∙ set_here s.views id left (at_inside s.views id (OfCopier p) at));
      slots = λ i l. let t : Slot plan s.words i p = subst (λ (z : CopierView). Slot plan s.words i z) is (r.slots i l) in record { live = t.live; dead = t.dead; small = t.small; unwritten = λ h. t.unwritten (omega arith) };
      twins = λ i q l e. ⊎_elim
          (λ (old : get_elem? (set s.views id left) (owner plan i + 1) ≡ some (OfWriter q)). ⊎_elim
          (λ (t : (owner plan i + 1 ≡ id) × (left ≡ OfWriter q)). absurd (omega (arith, t.0, k.position_is)))
          (λ (t : (owner plan i + 1 ≢ id) × (get_elem? s.views (owner plan i + 1) ≡ some (OfWriter q))). let u : Twin plan s.words i q p = subst (λ (z : CopierView). Twin plan s.words i q z) is (r.twins i q l t.1) in
          record { first_is = u.first_is; same = u.same; checked = u.checked; wrote_first = u.wrote_first; wrote_second = u.wrote_second; wrote_value = u.wrote_value })
          (at_set s.views id (owner plan i + 1) left (OfWriter q) old))
          (λ (t : (owner plan i + 1 ≡ length (set s.views id left)) × (right ≡ OfWriter q)). let own : Slot plan s.words i p = subst (λ (z : CopierView). Slot plan s.words i z) is (r.slots i l) in
          let u = own.unwritten (omega (arith, t.0, len, k.positions_are)) in subst (λ (z : WriterView). Twin plan s.words i z p') (ap writer_part t.1) record {
            first_is = λ _. u.0 ∙ sym (written i);
            same = λ _. inr (u.1 ∙ ap forward (sym (written i)));
            checked = λ _ _. inr (inr (u.1 ∙ ap forward (sym (written i))));
            wrote_first = λ _. inl u.0;
            wrote_second = λ x h. let null : x ≡ 0 = omega (arith, h, u.1) in inl null;
            wrote_value = λ h. inl (u.2 h);
          }) (at_end (set s.views id left) right (OfWriter q) (owner plan i + 1) e);
    }

pub deals : (plan : PlanView) (id : ℕ) (me : Holder) (p : CopierView) → me ≡ (OfCopier p, []) → p.plan ≡ plan → p.dealt < plan.seats → Splits (KeepsFlip plan) id me.0 (dealing_copier me.0) (dealt_writer me.0)
deals plan id me p is of room = subst (λ (z : Holder). Splits (KeepsFlip plan) id z.0 (dealing_copier z.0) (dealt_writer z.0)) (sym is) (deals_at plan id p of room)

only_one : (a b : View) (j : ℕ) → get_elem? (a ∷ []) j ≡ some b → (j ≡ 0) × (a ≡ b)
only_one a b zero e = (refl, some-injective a b e)
only_one a b (suc j) e = absurd (some-ne-none b (sym e))

pub opens : (plan : PlanView) (words : List ℕ) (count : ℕ) → words ≡ replicate count 0 → count ≡ length plan.owners + length plan.owners + plan.seats + 1 → ((k : ℕ) → k < length plan.owners → get_or plan.owners k 0 < plan.seats) → 0 < plan.limit
    → KeepsFlip plan (opening words [] (initial_view plan))
opens plan words count is count_is owned room = let null : (i : ℕ) → get_or words i 0 ≡ 0 = λ i. ap (λ (z : List ℕ). get_or z i 0) is ∙ blank count i 0 in
    let no_retired : (k : ℕ) → get_or (replicate (length plan.owners) false) k false ≡ true → ⊥ = λ k h. let unset : get_or (replicate (length plan.owners) false) k false ≡ false = blank (length plan.owners) k false in cc in record {
      words_are = ap length is ∙ (length-replicate {A = ℕ} count 0 ∙ count_is);
      owned = owned;
      within_one_stage = λ j _. let a = null (length plan.owners + length plan.owners + j) in let b = null (length plan.owners + length plan.owners + plan.seats) in (omega arith, omega arith);
      known = λ j v e. let t = only_one (initial_view plan) v j e in subst (λ (z : ℕ × View). Knows words plan 1 z.0 z.1) (λ i. (sym t.0 i, t.1 i)) record {
        plan_is = refl;
        position_is = refl;
        positions_are = refl;
        stage_is = null (length plan.owners + length plan.owners + plan.seats);
        last = omega arith;
        found_each = length-replicate {A = ℕ} plan.seats 0;
        found_since = λ a _. omega (arith, blank {A = ℕ} plan.seats a 0);
        undealt_is = λ a _ _. null (length plan.owners + length plan.owners + a);
        copied_each = length-replicate {A = Bool} (length plan.owners) false;
        retired_each = length-replicate {A = Bool} (length plan.owners) false;
        all_copied = λ h. absurd (omega arith);
        all_found = λ a h. absurd (no_retired a h);
      };
      copier = dealt_copier plan 0;
      copier_is = refl;
      slots = λ k _. record { live = λ _. subst (λ (z : ℕ). z < plan.limit) (sym (null k)) room; dead = λ h. absurd (no_retired k h); small = (0, room, null (length plan.owners + k)); unwritten = λ _. (null k, null (length plan.owners + k), λ _. refl) };
      twins = λ k q _ e. let t = only_one (initial_view plan) (OfWriter q) (get_or plan.owners k 0 + 1) e in absurd (omega (arith, t.0));
    }

-- how many words there are
pub some_words : (below : ℕ) → 0 < below + 1
some_words below = omega arith

pub few_words : (slots seats : ℕ) → (slots ≤ 4096) × (seats ≤ 16) → slots + slots + seats + 1 < 2 ^ 64
few_words slots seats few = omega arith
