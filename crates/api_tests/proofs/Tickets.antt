-- Two tickets.
use Rattle.std.proofs.Common.{◌≡◌, List, [], ◌∷◌, sym, ap, ◌∙◌, subst, All}
use Rattle.std.proofs.lemmas.List.Elements.{All-head, All-tail}
use Rattle.shared_machine.specs.Counts.{Count}
use Rattle.shared_machine.specs.Codes.{add}
use Rattle.shared_machine.specs.Histories.{count_of}
use Rattle.shared_machine.specs.Worlds.{AgreesWith, IfDid, add_event}
use Rattle.cil_model.specs.declared.events.Event.{Event}
use Rattle.shared_machine.specs.declared.history.Entry.{Entry}
use Rattle.shared_machine.specs.declared.answer.Answer.{Answer}
use Rattle.shared_machine.specs.declared.answer.Answer.TheVariants.{Did, NoMemory, Away}

pub did_counts : (x : Answer) (t u : Count) (e : Event) (h : List Entry) → IfDid x (λ r. u ≡ add_event t e r) → AgreesWith h u → IfDid x (λ r. count_of t.worker h ≡ add t.count e r)
did_counts (Did r) t u e h did agrees =
    let w : u.worker ≡ t.worker = ap (λ (c : Count). c.worker) did in
    let n : u.count ≡ add t.count e r = ap (λ (c : Count). c.count) did in
    sym (ap (λ k. count_of k h) w) ∙ sym agrees ∙ n
did_counts NoMemory t u e h did agrees = tt
did_counts Away t u e h did agrees = tt

pub first_agrees : (h : List Entry) (all : List Count) (a b : Count) → all ≡ a ∷ b ∷ [] → All (AgreesWith h) all → AgreesWith h a
first_agrees h all a b is agree = All-head (AgreesWith h) a (b ∷ []) (subst (All (AgreesWith h)) is agree)

pub second_agrees : (h : List Entry) (all : List Count) (a b : Count) → all ≡ a ∷ b ∷ [] → All (AgreesWith h) all → AgreesWith h b
second_agrees h all a b is agree = All-head (AgreesWith h) b [] (All-tail (AgreesWith h) a (b ∷ []) (subst (All (AgreesWith h)) is agree))
