-- Runs: how one follows another, and what they keep.
use Rattle.std.proofs.Common.{◌≡◌, ℕ, List, [], ◌∷◌, ◌++◌, Option, Some, None, option_map, option_and_then, slice_get, refl, sym, ap, ◌∙◌, subst}
use Rattle.std.proofs.lemmas.Option.{same_Some, slice_get-map}
use Rattle.cil_model.specs.declared.trees.Tree.{Tree}
use Rattle.cil_model.specs.declared.types.ClassName.{ClassName}
use Rattle.cil_model.specs.declared.types.DeclaredType.{DeclaredType}
use Rattle.cil_model.specs.declared.limits.Limits.{Limits}
use Rattle.cil_model.specs.declared.reports.Report.{Report}
use Rattle.cil_model.specs.Assignable.{array_of, type_of_class}
use Rattle.reference_machine.specs.Values.{ObjectName, Born, Literal}
use Rattle.reference_machine.specs.States.{Contents, Instance, Array, HeapObject, State, type_of_contents, type_of, class_of_contents, class_of}
use Rattle.reference_machine.specs.Steps.{StepOutcome, Answers, Stuck, step}
use Rattle.reference_machine.specs.Growth.{Shape, OfInstance, OfArray, shape_of, shapes, Follows}
use Rattle.reference_machine.specs.Runs.{StepRequest, Run, RunsTo, SticksAfter, preceded_by, followed_by, run}
use Rattle.reference_machine.proofs.Runs.StateChanges.{follows_itself, follows_more}
use Rattle.reference_machine.proofs.Runs.InstructionEffects.{step_follows}
use Rattle.cil_model.proofs.Lists.{none_is_some, get_before}

abbrev pub IsStuck : Run → Type 0
IsStuck (RunsTo reports s) = ⊥
IsStuck (SticksAfter reports) = Unit {0}

pub clash : {A : Type 0} (reports reports' : List Report) (s : State) → SticksAfter reports ≡ RunsTo reports' s → A
clash {A} reports reports' s e = absurd (subst IsStuck e tt)

pub same_state : (rs qs : List Report) (s t : State) → RunsTo rs s ≡ RunsTo qs t → s ≡ t
same_state rs qs s t e = cc

pub same_reports : (rs qs : List Report) (s t : State) → RunsTo rs s ≡ RunsTo qs t → rs ≡ qs
same_reports rs qs s t e = cc

same_stuck : (rs qs : List Report) → SticksAfter rs ≡ SticksAfter qs → rs ≡ qs
same_stuck rs qs e = cc

-- what follows a report
module _ (r : Report) where
  pub after_run : {A : Type 0} (all : List Report) (s : State) (whole : Run) → preceded_by r whole ≡ RunsTo all s → ((reports : List Report) → whole ≡ RunsTo reports s → all ≡ r ∷ reports → A) → A
  after_run {A} all s (RunsTo reports s') e go =
      go reports (ap (RunsTo reports) (same_state (r ∷ reports) all s' s e)) (sym (same_reports (r ∷ reports) all s' s e))
  after_run all s (SticksAfter reports) e go = clash (r ∷ reports) all s e

  after_stuck : {A : Type 0} (all : List Report) (whole : Run) → preceded_by r whole ≡ SticksAfter all → ((reports : List Report) → whole ≡ SticksAfter reports → all ≡ r ∷ reports → A) → A
  after_stuck all (RunsTo reports s') e go = clash all (r ∷ reports) s' (sym e)
  after_stuck all (SticksAfter reports) e go = go reports refl (sym (same_stuck (r ∷ reports) all e))

module _ (tree : Tree) (limits : Limits) where
  -- the first step of a run, and the run from there
  pub record IsFirst (s : State) (q : StepRequest) (qs : List StepRequest) (reports : List Report) (t : State) : Type 0 where
    pub report : Report
    pub after : State
    pub later : List Report
    pub answers : step tree limits s q.0 q.1 ≡ Answers report after
    pub are : reports ≡ report ∷ later
    pub runs : run tree limits after qs ≡ RunsTo later t

  pub first_of : (s : State) (q : StepRequest) (qs : List StepRequest) (reports : List Report) (t : State) → run tree limits s (q ∷ qs) ≡ RunsTo reports t → IsFirst s q qs reports t
  first_of s q qs reports t e = by_outcome (step tree limits s q.0 q.1) refl e
    where
      by_outcome : (o : StepOutcome) → step tree limits s q.0 q.1 ≡ o → followed_by o (λ x. run tree limits x qs) ≡ RunsTo reports t → IsFirst s q qs reports t
      by_outcome Stuck is k = clash [] reports t k
      by_outcome (Answers r u) is k = after_run r reports t (run tree limits u qs) k (λ rs k' e'. record { report = r; after = u; later = rs; answers = is; are = e'; runs = k' })

  module _ (more : List StepRequest) (end : List Report → Run) (grows : (r : Report) (reports : List Report) → preceded_by r (end reports) ≡ end (r ∷ reports)) where
    -- a run that continues as another from the state that it reached
    goes_after : (first : List StepRequest) (s t : State) (reports : List Report) → run tree limits s first ≡ RunsTo reports t → run tree limits t more ≡ end [] → run tree limits s (first ++ more) ≡ end reports
    goes_after [] s t reports e h =
        subst (λ (x : State). run tree limits x more ≡ end []) (sym (same_state [] reports s t e)) h ∙ ap end (same_reports [] reports s t e)
    goes_after (q ∷ qs) s t reports e h =
        let x = first_of s q qs reports t e in
        ap (λ o. followed_by o (λ u. run tree limits u (qs ++ more))) x.answers ∙ ap (preceded_by x.report) (goes_after qs x.after t x.later x.runs h) ∙ grows x.report x.later ∙ ap end (sym x.are)

  -- one run, and then another
  pub runs_on : (first more : List StepRequest) (s t u : State) (reports later : List Report) → run tree limits s first ≡ RunsTo reports t → run tree limits t more ≡ RunsTo later u → run tree limits s (first ++ more) ≡ RunsTo (reports ++ later) u
  runs_on first more s t u reports later e h = goes_after more (λ rs. RunsTo (rs ++ later) u) (λ r rs. refl) first s t reports e h

  pub sticks_on : (first more : List StepRequest) (s t : State) (reports later : List Report) → run tree limits s first ≡ RunsTo reports t → run tree limits t more ≡ SticksAfter later → run tree limits s (first ++ more) ≡ SticksAfter (reports ++ later)
  sticks_on first more s t reports later e h = goes_after more (λ rs. SticksAfter (rs ++ later)) (λ r rs. refl) first s t reports e h

  -- where a run sticks, no step follows
  pub stays_stuck : (first more : List StepRequest) (s : State) (reports : List Report) → run tree limits s first ≡ SticksAfter reports → run tree limits s (first ++ more) ≡ SticksAfter reports
  stays_stuck [] more s reports e = clash reports [] s (sym e)
  stays_stuck (q ∷ qs) more s reports e = by_outcome (step tree limits s q.0 q.1) e (λ u rs k. stays_stuck qs more u rs k)
    where
      by_outcome : (o : StepOutcome) → followed_by o (λ u. run tree limits u qs) ≡ SticksAfter reports → ((u : State) (rs : List Report) → run tree limits u qs ≡ SticksAfter rs → run tree limits u (qs ++ more) ≡ SticksAfter rs) →
          followed_by o (λ u. run tree limits u (qs ++ more)) ≡ SticksAfter reports
      by_outcome Stuck k later = k
      by_outcome (Answers r u) k later = after_stuck r reports (run tree limits u qs) k (λ rs k' e'. ap (preceded_by r) (later u rs k') ∙ ap SticksAfter (sym e'))

  -- a run takes nothing back
  pub run_follows : (requests : List StepRequest) (s t : State) (reports : List Report) → run tree limits s requests ≡ RunsTo reports t → Follows s t
  run_follows [] s t reports e = subst (Follows s) (same_state [] reports s t e) (follows_itself s)
  run_follows (q ∷ qs) s t reports e =
      let x = first_of s q qs reports t e in
      follows_more s x.after t (step_follows tree limits s q.0 q.1 x.report x.after x.answers) (run_follows qs x.after t x.later x.runs)

-- ---- types stay

-- the type and the class of an object of a shape
abbrev type_of_shape : Shape → DeclaredType
type_of_shape (OfInstance c keys) = type_of_class c
type_of_shape (OfArray t n) = array_of t

abbrev class_of_shape : Shape → Option ClassName
class_of_shape (OfInstance c keys) = Some c
class_of_shape (OfArray t n) = None

type_by_shape : (c : Contents) → type_of_contents c ≡ type_of_shape (shape_of c)
type_by_shape (Instance c fields) = refl
type_by_shape (Array t elements) = refl

class_by_shape : (c : Contents) → class_of_contents c ≡ class_of_shape (shape_of c)
class_by_shape (Instance c fields) = refl
class_by_shape (Array t elements) = refl

module _ (s t : State) (follows : Follows s t) where
  shape_stays : (n : ℕ) (o : HeapObject) → slice_get s.objects n ≡ Some o → (o' : HeapObject) × (slice_get t.objects n ≡ Some o') × (shape_of o'.contents ≡ shape_of o.contents)
  shape_stays n o there =
      let f : HeapObject → Shape = λ x. shape_of x.contents in
      let here : slice_get (shapes s) n ≡ Some (f o) = slice_get-map f s.objects n ∙ ap (option_map f) there in
      let now : slice_get (shapes t) n ≡ Some (f o) = ap (λ xs. slice_get xs n) follows.objects.1 ∙ get_before (shapes s) follows.objects.0 n (f o) here in
      by_object (slice_get t.objects n) (sym (slice_get-map f t.objects n) ∙ now)
    where
      by_object : (found : Option HeapObject) → option_map (λ (x : HeapObject). shape_of x.contents) found ≡ Some (shape_of o.contents) → (o' : HeapObject) × (found ≡ Some o') × (shape_of o'.contents ≡ shape_of o.contents)
      by_object None e = none_is_some (shape_of o.contents) e
      by_object (Some o') e = (o', refl, same_Some (shape_of o'.contents) (shape_of o.contents) e)

  pub type_stays : (n : ObjectName) (type : DeclaredType) → type_of s n ≡ Some type → type_of t n ≡ Some type
  type_stays (Literal characters) type e = e
  type_stays (Born n) type e = by_object (slice_get s.objects n) refl e
    where
      by_object : (found : Option HeapObject) → slice_get s.objects n ≡ found → option_map (λ (o : HeapObject). type_of_contents o.contents) found ≡ Some type → type_of t (Born n) ≡ Some type
      by_object None there h = none_is_some type h
      by_object (Some o) there h =
          let now : (o' : HeapObject) × (slice_get t.objects n ≡ Some o') × (shape_of o'.contents ≡ shape_of o.contents) = shape_stays n o there in
          ap (option_map (λ (x : HeapObject). type_of_contents x.contents)) now.1 ∙ ap Some (type_by_shape now.0.contents ∙ ap type_of_shape now.2 ∙ sym (type_by_shape o.contents)) ∙ h

  pub class_stays : (n : ObjectName) (c : ClassName) → class_of s n ≡ Some c → class_of t n ≡ Some c
  class_stays (Literal characters) c e = e
  class_stays (Born n) c e = by_object (slice_get s.objects n) refl e
    where
      by_object : (found : Option HeapObject) → slice_get s.objects n ≡ found → option_and_then (λ (o : HeapObject). class_of_contents o.contents) found ≡ Some c → class_of t (Born n) ≡ Some c
      by_object None there h = none_is_some c h
      by_object (Some o) there h =
          let now : (o' : HeapObject) × (slice_get t.objects n ≡ Some o') × (shape_of o'.contents ≡ shape_of o.contents) = shape_stays n o there in
          ap (option_and_then (λ (x : HeapObject). class_of_contents x.contents)) now.1 ∙ class_by_shape now.0.contents ∙ ap class_of_shape now.2 ∙ sym (class_by_shape o.contents) ∙ h
