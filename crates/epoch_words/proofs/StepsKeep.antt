-- Each kind of step, and the giving out of a seat, keeps the rule of the shared words.
use Rattle.std.proofs.Common.{◌≡◌, ◌≢◌, ℕ, ◌+◌, ◌<◌, ◌≤◌, List, [], ◌∷◌, ◌++◌, length, get_or, set, sym, refl, ap, ◌∙◌, subst, arith, length-set, length-append, get_or-set_other, get_or-set_same}
use mathlib.Core.Logic.{dite}
use mathlib.Core.Option.{Option, none}
use native.Mathlib.Decide.{ℕ_discrete}
use lib.Seq.{set-get_or}
use Rattle.atomic_table.specs.Table.{State, step, keeps, Allows, Splits}
use Rattle.epoch_words.proofs.Views.{at_inside, changed, longer}
use Rattle.epoch_words.specs.Rule.{AreWithinOneEpoch, IsSeatView, IsHeraldView, Knows, KeepsEpochs}
use Rattle.epoch_words.specs.Steps.{Holder, dealing_herald, dealt_seat, LoadsPosted, StoresSeen, LoadsSeen, StoresPosted}
use Rattle.epoch_words.specs.Tokens.{FoundAll, IsPostedOrOneLess}
use Rattle.epoch_words.specs.declared.word_table.HeraldView.{HeraldView}
use Rattle.epoch_words.specs.declared.word_table.SeatView.{SeatView}
use Rattle.epoch_words.specs.declared.word_table.View.{View}
use Rattle.epoch_words.specs.declared.word_table.View.TheVariants.{OfSeat, OfHerald}

abbrev Table : Type 0
Table = State (Unit {0}) View

-- what every other view knows continues to hold, while the words become `after`
abbrev KeepsOthers : ℕ → ℕ → List ℕ → List ℕ → ℕ → Type 0
KeepsOthers workers positions before after mover = (j : ℕ) (v : View) → j ≢ mover → Knows before workers positions j v → Knows after workers positions j v

-- a step of the view at `mover`, which becomes w, while the words become `after`
stepped_keeps : (workers : ℕ) (s : Table) → KeepsEpochs workers s → (after : List ℕ) (homes : List (Option (Unit {0}))) (mover : ℕ) (w : View) → length after ≡ length s.words → AreWithinOneEpoch workers after
    → Knows after workers (length s.views) mover w → KeepsOthers workers (length s.views) s.words after mover → KeepsEpochs workers record { words = after; homes = homes; views = set s.views mover w }
stepped_keeps workers s rule after homes mover w same_length within_one_epoch mine others = record {
  words_are = same_length ∙ rule.words_are;
  within_one_epoch = within_one_epoch;
  known = λ j v e. subst (λ k. Knows after workers k j v) (sym (length-set s.views mover w)) (changed (Knows after workers (length s.views)) s.views mover w mine (λ a b ne h. others a b ne (rule.known a b h)) j v e);
}

-- a load of word i
loaded_keeps : (workers : ℕ) (s : Table) → KeepsEpochs workers s → (i : ℕ) (homes : List (Option (Unit {0}))) (mover : ℕ) (w : View) → Knows s.words workers (length s.views) mover w
    → KeepsEpochs workers record { words = set s.words i (get_or s.words i 0); homes = homes; views = set s.views mover w }
loaded_keeps workers s rule i homes mover w mine = subst (λ (ws : List ℕ). KeepsEpochs workers record { words = ws; homes = homes; views = set s.views mover w }) (sym (set-get_or s.words i 0))
    (stepped_keeps workers s rule s.words homes mover w refl rule.within_one_epoch mine (λ j v _ k. k))

loads_posted_at : (workers slots id : ℕ) (seat : SeatView) → Allows (KeepsEpochs workers) slots id (OfSeat seat, []) workers (λ n. n) (LoadsPosted (step slots workers 0 0 none) (OfSeat seat, []))
loads_posted_at workers slots id seat s rule _ at _ = let k : IsSeatView s.words workers id seat = rule.known id (OfSeat seat) at in let n : ℕ = get_or s.words workers 0 in let near = rule.within_one_epoch seat.index k.in_range in
    let after : View = OfSeat (record seat { polled = n; polls = seat.polls + 1 }) in
    let kept =
    loaded_keeps workers s rule workers s.homes id after record {
      position_is = k.position_is;
      in_range = k.in_range;
      seen_is = k.seen_is;
      seen_polled = omega (arith, near.0, k.seen_is);
      polled_posted = omega arith;
    } in
    (after, keeps, tt, kept, (refl, subst (λ (m : ℕ). IsPostedOrOneLess m n) k.seen_is near, k.polled_posted))

pub loads_posted : (key workers slots id : ℕ) (me : Holder) (seat : SeatView) → key ≡ workers → me ≡ (OfSeat seat, [])
    → Allows (KeepsEpochs key) slots id me workers (λ n. n) (LoadsPosted (step slots workers 0 0 none) me)
loads_posted key workers slots id me seat key_is me_is = subst (λ (z : ℕ × Holder). Allows (KeepsEpochs z.0) slots id z.1 workers (λ n. n) (LoadsPosted (step slots workers 0 0 none) z.1)) (λ i. (sym key_is i, sym me_is i))
    (loads_posted_at workers slots id seat)

-- a store of x to the word of seat i
module _ (workers : ℕ) (ws : List ℕ) (i x : ℕ) (in_range : i < workers) where
  posted_stays : get_or (set ws i x) workers 0 ≡ get_or ws workers 0
  posted_stays = get_or-set_other ws i workers x 0 (λ e. omega arith)

  here : length ws ≡ workers + 1 → get_or (set ws i x) i 0 ≡ x
  here words_are = get_or-set_same ws i x 0 (omega arith)

  there : (j : ℕ) → j ≢ i → get_or (set ws i x) j 0 ≡ get_or ws j 0
  there j ne = get_or-set_other ws i j x 0 ne

  seen_paced : length ws ≡ workers + 1 → AreWithinOneEpoch workers ws → IsPostedOrOneLess x (get_or ws workers 0) → AreWithinOneEpoch workers (set ws i x)
  seen_paced words_are within_one_epoch mine j l = subst (λ (n : ℕ). IsPostedOrOneLess (get_or (set ws i x) j 0) n) (sym posted_stays) (dite (ℕ_discrete j i)
      (λ e. subst (λ (n : ℕ). IsPostedOrOneLess n (get_or ws workers 0)) (sym (ap (λ (k : ℕ). get_or (set ws i x) k 0) e ∙ here words_are)) mine)
      (λ ne. subst (λ (n : ℕ). IsPostedOrOneLess n (get_or ws workers 0)) (sym (there j ne)) (within_one_epoch j l)))

  seen_others : (positions : ℕ) → length ws ≡ workers + 1 → i + 1 < positions → get_or ws i 0 ≤ x → KeepsOthers workers positions ws (set ws i x) (i + 1)
  seen_others positions words_are last grows j (OfSeat seat) ne k = record {
    position_is = k.position_is;
    in_range = k.in_range;
    seen_is = there seat.index (λ e. ne (omega (arith, k.position_is))) ∙ k.seen_is;
    seen_polled = k.seen_polled;
    polled_posted = subst (λ (n : ℕ). seat.polled ≤ n) (sym posted_stays) k.polled_posted;
  }
  seen_others positions words_are last grows j (OfHerald herald) ne k = record {
    position_is = k.position_is;
    positions_are = k.positions_are;
    found_each = k.found_each;
    posted_is = posted_stays ∙ k.posted_is;
    found_since = λ m l. dite (ℕ_discrete m i)
        (λ e. let h = k.found_since m l in let g : get_or (set ws i x) m 0 ≡ x = ap (λ (n : ℕ). get_or (set ws i x) n 0) e ∙ here words_are in
        let o : get_or ws m 0 ≡ get_or ws i 0 = ap (λ (n : ℕ). get_or ws n 0) e in omega arith)
        (λ other. subst (λ (n : ℕ). get_or herald.found m 0 ≤ n) (sym (there m other)) (k.found_since m l));
    undealt_is = λ m l h. there m (λ e. omega (arith, k.positions_are)) ∙ k.undealt_is m l h;
  }

stores_seen_at : (workers slots id : ℕ) (seat : SeatView)
    → Allows (KeepsEpochs workers) slots id (OfSeat seat, []) seat.index (λ _. seat.polled) (λ _. StoresSeen (step slots seat.index seat.polled 0 none) (OfSeat seat, []) seat.polled)
stores_seen_at workers slots id seat s rule _ at _ = let k : IsSeatView s.words workers id seat = rule.known id (OfSeat seat) at in let near = rule.within_one_epoch seat.index k.in_range in let last = at_inside s.views id (OfSeat seat) at in
    let after : List ℕ = set s.words seat.index seat.polled in let posted_same = posted_stays workers s.words seat.index seat.polled k.in_range in let acked : View = OfSeat (record seat { seen = seat.polled }) in
    let kept =
    stepped_keeps workers s rule after s.homes id acked (length-set s.words seat.index seat.polled)
    (seen_paced workers s.words seat.index seat.polled k.in_range rule.words_are rule.within_one_epoch (k.polled_posted, omega (arith, near.1, k.seen_is, k.seen_polled)))
    record {
      position_is = k.position_is;
      in_range = k.in_range;
      seen_is = here workers s.words seat.index seat.polled k.in_range rule.words_are;
      seen_polled = omega arith;
      polled_posted = subst (λ (n : ℕ). seat.polled ≤ n) (sym posted_same) k.polled_posted;
    }
    (λ j v ne o. seen_others workers s.words seat.index seat.polled k.in_range (length s.views) rule.words_are (omega (arith, last, k.position_is)) (omega (arith, k.seen_is, k.seen_polled)) j v (λ e. ne (e ∙ sym k.position_is)) o) in
    (acked, keeps, tt, kept, refl)

pub stores_seen : (key slots id index polled : ℕ) (me : Holder) (seat : SeatView) → index ≡ seat.index → polled ≡ seat.polled → me ≡ (OfSeat seat, [])
    → Allows (KeepsEpochs key) slots id me index (λ _. polled) (λ _. StoresSeen (step slots index polled 0 none) me polled)
stores_seen key slots id index polled me seat index_is polled_is me_is =
    subst (λ (z : ℕ × ℕ × Holder). Allows (KeepsEpochs key) slots id z.2 z.0 (λ _. z.1) (λ _. StoresSeen (step slots z.0 z.1 0 none) z.2 z.1)) (λ i. (sym index_is i, sym polled_is i, sym me_is i))
    (stores_seen_at key slots id seat)

loads_seen_at : (workers slots id i : ℕ) (herald : HeraldView) → i < length herald.found
    → Allows (KeepsEpochs workers) slots id (OfHerald herald, []) i (λ n. n) (LoadsSeen (step slots i 0 0 none) (OfHerald herald, []))
loads_seen_at workers slots id i herald l s rule _ at _ = let k : IsHeraldView s.words workers (length s.views) id herald = rule.known id (OfHerald herald) at in let n : ℕ = get_or s.words i 0 in
    let near : IsPostedOrOneLess n (get_or s.words workers 0) = rule.within_one_epoch i (omega (arith, k.found_each)) in let after : HeraldView = record herald { found = set herald.found i n; looks = herald.looks + 1; looked_at = i } in
    let kept =
    loaded_keeps workers s rule i s.homes id (OfHerald after) record {
      position_is = k.position_is;
      positions_are = k.positions_are;
      found_each = length-set herald.found i n ∙ k.found_each;
      posted_is = k.posted_is;
      found_since = λ j h. dite (ℕ_discrete j i)
          (λ e. subst (λ (m : ℕ). get_or (set herald.found i n) m 0 ≤ get_or s.words m 0) (sym e) (let same = get_or-set_same herald.found i n 0 l in omega (arith, same)))
          (λ ne. subst (λ (m : ℕ). m ≤ get_or s.words j 0) (sym (get_or-set_other herald.found i j n 0 ne)) (k.found_since j h));
      undealt_is = k.undealt_is;
    } in
    (OfHerald after, keeps, tt, kept, (refl, subst (λ (m : ℕ). IsPostedOrOneLess n m) k.posted_is near, k.found_since i (omega (arith, k.found_each))))

pub loads_seen : (key slots id i : ℕ) (me : Holder) (herald : HeraldView) → me ≡ (OfHerald herald, []) → i < length herald.found
    → Allows (KeepsEpochs key) slots id me i (λ n. n) (LoadsSeen (step slots i 0 0 none) me)
loads_seen key slots id i me herald me_is l = subst (λ (z : Holder). Allows (KeepsEpochs key) slots id z i (λ n. n) (LoadsSeen (step slots i 0 0 none) z)) (sym me_is)
    (loads_seen_at key slots id i herald l)

-- a store of a greater number as posted
raised_others : (workers : ℕ) (ws : List ℕ) (positions n : ℕ) → get_or (set ws workers n) workers 0 ≡ n → ((j : ℕ) → j < workers → get_or (set ws workers n) j 0 ≡ get_or ws j 0) → get_or ws workers 0 ≤ n
    → KeepsOthers workers positions ws (set ws workers n) 0
raised_others workers ws positions n raised there grows j (OfSeat seat) ne k = record {
  position_is = k.position_is;
  in_range = k.in_range;
  seen_is = there seat.index k.in_range ∙ k.seen_is;
  seen_polled = k.seen_polled;
  polled_posted = subst (λ (m : ℕ). seat.polled ≤ m) (sym raised) (omega (arith, k.polled_posted));
}
raised_others workers ws positions n raised there grows j (OfHerald herald) ne k = absurd (ne k.position_is)

stores_posted_at : (workers slots id : ℕ) (herald : HeraldView) → FoundAll workers herald.posted herald.found
    → Allows (KeepsEpochs workers) slots id (OfHerald herald, []) workers (λ _. herald.posted + 1) (λ _. StoresPosted (step slots workers (herald.posted + 1) 0 none) (OfHerald herald, []) (herald.posted + 1))
stores_posted_at workers slots id herald all s rule _ at _ = let k : IsHeraldView s.words workers (length s.views) id herald = rule.known id (OfHerald herald) at in let n : ℕ = herald.posted + 1 in let after : List ℕ = set s.words workers n in
    let next : View = OfHerald (record herald { posted = n }) in
    let raised : get_or after workers 0 ≡ n = get_or-set_same s.words workers n 0 (omega (arith, rule.words_are)) in
    let there : (j : ℕ) → j < workers → get_or after j 0 ≡ get_or s.words j 0 = λ j l. get_or-set_other s.words workers j n 0 (λ e. omega arith) in
    let kept =
    stepped_keeps workers s rule after s.homes id next (length-set s.words workers n)
    (λ j l. let old : IsPostedOrOneLess (get_or s.words j 0) (get_or s.words workers 0) = rule.within_one_epoch j l in let since = k.found_since j l in
    let now : get_or herald.found j 0 ≡ herald.posted = all j l in (omega (arith, there j l, raised, old.0, k.posted_is), omega (arith, there j l, raised, since, now)))
    record {
      position_is = k.position_is;
      positions_are = k.positions_are;
      found_each = k.found_each;
      posted_is = raised;
      found_since = λ j l. subst (λ (m : ℕ). get_or herald.found j 0 ≤ m) (sym (there j l)) (k.found_since j l);
      undealt_is = λ j l h. there j h ∙ k.undealt_is j l h;
    }
    (λ j v ne o. raised_others workers s.words (length s.views) n raised there (omega (arith, k.posted_is)) j v (λ e. ne (e ∙ sym k.position_is)) o) in
    (next, keeps, tt, kept, refl)

pub stores_posted : (key workers slots id next : ℕ) (me : Holder) (herald : HeraldView) → key ≡ workers → next ≡ herald.posted + 1 → me ≡ (OfHerald herald, []) → FoundAll workers herald.posted herald.found
    → Allows (KeepsEpochs key) slots id me workers (λ _. next) (λ _. StoresPosted (step slots workers next 0 none) me next)
stores_posted key workers slots id next me herald key_is next_is me_is all =
    subst (λ (z : ℕ × ℕ × Holder). Allows (KeepsEpochs z.0) slots id z.2 workers (λ _. z.1) (λ _. StoresPosted (step slots workers z.1 0 none) z.2 z.1)) (λ i. (sym key_is i, sym next_is i, sym me_is i))
    (stores_posted_at workers slots id herald all)

-- what others know, once there is one position more
joined_others : (workers : ℕ) (ws : List ℕ) (positions more j : ℕ) (v : View) → j ≢ 0 → Knows ws workers positions j v → Knows ws workers more j v
joined_others workers ws positions more j (OfSeat seat) ne k = k
joined_others workers ws positions more j (OfHerald herald) ne k = absurd (ne k.position_is)

deals_at : (workers id : ℕ) (herald : HeraldView) → herald.dealt < length herald.found → Splits (KeepsEpochs workers) id (OfHerald herald) (dealing_herald (OfHerald herald)) (dealt_seat (OfHerald herald))
deals_at workers id herald room s rule at = let k : IsHeraldView s.words workers (length s.views) id herald = rule.known id (OfHerald herald) at in let left : View = dealing_herald (OfHerald herald) in
    let right : View = dealt_seat (OfHerald herald) in let positions : ℕ = length s.views + 1 in let len : length (set s.views id left) ≡ length s.views = length-set s.views id left in
    let more : length (set s.views id left ++ right ∷ []) ≡ positions = length-append (set s.views id left) (right ∷ []) ∙ ap (λ (x : ℕ). x + 1) len in record {
      words_are = rule.words_are;
      within_one_epoch = rule.within_one_epoch;
      known = λ j v e. subst (λ (x : ℕ). Knows s.words workers x j v) (sym more) (longer (Knows s.words workers positions) (set s.views id left) right
          record {
            position_is = len ∙ k.positions_are;
            in_range = omega (arith, k.found_each);
            seen_is = k.undealt_is herald.dealt (omega arith) (omega (arith, k.found_each));
            seen_polled = omega arith;
            polled_posted = omega arith;
          }
          (changed (Knows s.words workers positions) s.views id left
          record {
            position_is = k.position_is;
            positions_are = ap (λ (x : ℕ). x + 1) k.positions_are;
            found_each = k.found_each;
            posted_is = k.posted_is;
            found_since = k.found_since;
            undealt_is = λ i l h. k.undealt_is i (omega arith) h;
          }
          (λ a b ne h. joined_others workers s.words (length s.views) positions a b (λ e. ne (e ∙ sym k.position_is)) (rule.known a b h))) j v e);
    }

pub deals : (key id : ℕ) (me : Holder) (herald : HeraldView) → me ≡ (OfHerald herald, []) → herald.dealt < length herald.found → Splits (KeepsEpochs key) id me.0 (dealing_herald me.0) (dealt_seat me.0)
deals key id me herald me_is room = subst (λ (z : Holder). Splits (KeepsEpochs key) id z.0 (dealing_herald z.0) (dealt_seat z.0)) (sym me_is) (deals_at key id herald room)
