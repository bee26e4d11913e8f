-- A method that is found is declared, and one that is declared and gets a frame has a typing in an accepted program.
use Rattle.std.proofs.Common.{◌≡◌, ℕ, zero, suc, pos, ◌≤ℤ◌, Bool, true, false, not, cond, ◌&&◌, List, [], ◌∷◌, ◌++◌, length, map, flat_map, find, Some, None, slice_get, Contains, refl, inl, inr, sym, ap, ◌∙◌, subst, arith}
use Rattle.std.specs.Int.Signed.{le_z_yes}
use Rattle.cil_model.specs.declared.types.ClassName.{ClassName}
use Rattle.cil_model.specs.declared.instructions.MethodReference.{MethodReference}
use Rattle.cil_model.specs.declared.trees.Tree.{Tree}
use Rattle.cil_model.specs.declared.instructions.Instruction.TheVariants.{Return}
use Rattle.cil_model.specs.declared.trees.Class.{Class}
use Rattle.cil_model.specs.declared.trees.Line.{Line}
use Rattle.cil_model.specs.declared.trees.Method.{Method}
use Rattle.cil_model.specs.Same.{same_flag, same_class, same_signature, same_method_name}
use Rattle.cil_model.specs.Declarations.{Declaration, source_name, method_members, object_name, console_name, monitor_name, thread_name, object_constructor, run_method, return_alone}
use Rattle.cil_model.specs.Chains.{classes_searched, is_static, methods_declared, find_method, listed_by}
use Rattle.cil_model.specs.TypeTree.{StackType}
use Rattle.cil_model.specs.FlowRules.{flow}
use Rattle.cil_model.specs.Examples.{unlabelled_line}
use Rattle.cil_model.specs.Slots.{target}
use Rattle.cil_model.specs.Bodies.{argument_types, source_methods}
use Rattle.reference_machine.specs.BuiltIn.{Action, Construct, Write, Enter, Exit, Start, Join, action_of}
use Rattle.cil_model.specs.Typings.{Typing, FlowsOn, IsTyping, IsAccepted}
use Rattle.cil_model.proofs.Lists.{none_is_some, get_before}
use Rattle.cil_model.proofs.SameLaws.{never}
use Rattle.reference_machine.proofs.Programs.DeclaredClasses.{ThreadStatus, of_source, of_object, of_string, of_console, of_monitor, of_thread, of_none, thread_status, source_is_named, source_declares}
use Rattle.reference_machine.proofs.Programs.VirtualTargets.{is_named, nearest_at, target_is}
use Rattle.std.proofs.lemmas.Option.{same_Some}

-- ---- lists

-- the item is somewhere in the list
abbrev pub Occurs : {X : Type 0} → List X → X → Type 0
Occurs xs x = (n : ℕ) × (slice_get xs n ≡ Some x)

found_refines : {X : Type 0} (test : X → Bool) (xs : List X) (x : X) → find test xs ≡ Some x → Occurs xs x
found_refines test [] x h = none_is_some x h
found_refines {X} test (y ∷ ys) x h = by_test (test y) h (found_refines test ys x)
  where
    by_test : (b : Bool) → cond b (Some y) (find test ys) ≡ Some x → (find test ys ≡ Some x → Occurs ys x) → Occurs (y ∷ ys) x
    by_test true e later = (0, e)
    by_test false e later = let s : Occurs ys x = later e in (suc s.0, s.1)

occurs_after : {X : Type 0} (xs ys : List X) (y : X) → Occurs ys y → Occurs (xs ++ ys) y
occurs_after [] ys y h = h
occurs_after (x ∷ xs) ys y h = let s : Occurs (xs ++ ys) y = occurs_after xs ys y h in (suc s.0, s.1)

occurs_in_flat : {X Y : Type 0} (f : X → List Y) (xs : List X) (x : X) (y : Y) → Occurs xs x → Occurs (f x) y → Occurs (flat_map f xs) y
occurs_in_flat f [] x y (n, h) k = none_is_some x h
occurs_in_flat {X} {Y} f (z ∷ zs) x y (zero, h) (j, k) =
    let P : X → Type 0 = λ w. slice_get (f w) j ≡ Some y in
    (j, get_before (f z) (flat_map f zs) j y (subst P (sym (same_Some z x h)) k))
occurs_in_flat f (z ∷ zs) x y (suc n, h) k =
    occurs_after (f z) (flat_map f zs) y (occurs_in_flat f zs x y (n, h) k)

occurs_in_map : {X Y : Type 0} (f : X → Y) (xs : List X) (x : X) → Occurs xs x → Occurs (map f xs) (f x)
occurs_in_map f [] x (n, h) = none_is_some x h
occurs_in_map f (y ∷ ys) x (zero, h) = (0, ap Some (ap f (same_Some y x h)))
occurs_in_map f (y ∷ ys) x (suc n, h) = let s : Occurs (map f ys) (f x) = occurs_in_map f ys x (n, h) in (suc s.0, s.1)

-- ---- what is found is declared

module _ (tree : Tree) where
  abbrev pub IsDeclared : ClassName → Method → Type 0
  IsDeclared c m = Occurs (methods_declared tree c) m

  pub found_is_declared : (is_instance : Bool) (r : MethodReference) (c : ClassName) (m : Method) → find_method tree is_instance r ≡ Some (c, m) → IsDeclared c m
  found_is_declared is_instance r c m h = found_refines fits (methods_declared tree c) m (nearest_at (λ k. find fits (methods_declared tree k)) (classes_searched tree r.name r.owner) c m h).0
    where
      fits : Method → Bool
      fits x = same_method_name x.name r.name && same_signature x.signature r.signature && same_flag (is_static x.kind) (not is_instance)

  -- the target of a declared method is declared
  pub target_is_declared : (d c : ClassName) (m : Method) (k : ClassName) (m' : Method) → target tree d c m ≡ Some (k, m') → IsDeclared c m → IsDeclared k m'
  target_is_declared d c m k m' h there = elim (target_is tree d c m (k, m') h) [
    | inl itself ↦ subst (λ (p : ClassName × Method). IsDeclared p.0 p.1) itself.1 there
    | inr is ↦ found_refines (is_named m.name m.signature) (methods_declared tree k) m' is.0
  ]

-- ---- typings

-- the typing of Cilvm.Thread::Run, which returns at once
module _ (tree : Tree) where
  run_typing : IsTyping tree thread_name run_method (Some [] ∷ [])
  run_typing = record {
    whole = refl;
    start = refl;
    height = height;
    each = each;
  }
    where
      no_more : {A : Type 0} (n : ℕ) (stack : List StackType) → slice_get (Some [] ∷ []) (suc n) ≡ Some (Some stack) → A
      no_more n stack e = none_is_some (Some stack) e

      height : (pc : ℕ) (stack : List StackType) → slice_get (Some [] ∷ []) pc ≡ Some (Some stack) → pos (length stack) ≤ℤ pos 0
      height zero stack e = let P : List StackType → Type 0 = λ x. pos (length x) ≤ℤ pos 0 in subst P (same_Some [] stack (same_Some (Some []) (Some stack) e)) (le_z_yes tt)
      height (suc n) stack e = no_more n stack e

      each : (pc : ℕ) (line : Line) (stack : List StackType) → slice_get (unlabelled_line Return ∷ []) pc ≡ Some line → slice_get (Some [] ∷ []) pc ≡ Some (Some stack) →
          (after : List StackType) × (flow tree (argument_types run_method thread_name) [] None line.instruction stack ≡ Some after) × FlowsOn tree return_alone (Some [] ∷ []) pc line after
      each zero line stack e h = at_return line stack (same_Some (unlabelled_line Return) line e) (same_Some [] stack (same_Some (Some []) (Some stack) h))
        where
          no_label : {A : Type 0} (label : List ℕ) → Contains [] label → A
          no_label label (k, less, e') = absurd (omega (arith, less))

          at_return : (line : Line) (stack : List StackType) → unlabelled_line Return ≡ line → [] ≡ stack →
              (after : List StackType) × (flow tree (argument_types run_method thread_name) [] None line.instruction stack ≡ Some after) × FlowsOn tree return_alone (Some [] ∷ []) 0 line after
          at_return line stack e' h' =
              let P : Line → Type 0 = λ x. (after : List StackType) × (flow tree (argument_types run_method thread_name) [] None x.instruction stack ≡ Some after) × FlowsOn tree return_alone (Some [] ∷ []) 0 x after in
              let Q : List StackType → Type 0 = λ x. (after : List StackType) × (flow tree (argument_types run_method thread_name) [] None Return x ≡ Some after) × FlowsOn tree return_alone (Some [] ∷ []) 0 (unlabelled_line Return) after in
              subst P e' (subst Q h' ([], refl, record { falls = λ f. never f; branches = λ label c. no_label label c }))
      each (suc n) line stack e h = no_more n stack h

  abbrev HasTyping : ClassName → Method → Type 0
  HasTyping c m = (typing : Typing) × IsTyping tree c m typing

  acts_at_once : {A : Type 0} (c : ClassName) (a : Action) (m m' : Method) → action_of c m ≡ Some a → m ≡ m' → action_of c m' ≡ None → A
  acts_at_once c a m m' e same h = none_is_some a (sym h ∙ sym (ap (action_of c) same) ∙ e)

  -- of the built-in members, all but Run act at once
  member_of_object : (n : ℕ) (m : Method) → slice_get (object_constructor ∷ []) n ≡ Some m → action_of object_name m ≡ None → HasTyping object_name m
  member_of_object zero m e h = acts_at_once object_name Construct object_constructor m refl (same_Some object_constructor m e) h
  member_of_object (suc n) m e h = none_is_some m e

  member_of_console : (n : ℕ) (m : Method) → slice_get (methods_declared tree console_name) n ≡ Some m → action_of console_name m ≡ None → HasTyping console_name m
  member_of_console (suc (suc (suc n))) m e h = none_is_some m e
  member_of_console _ m e h = acts_at_once console_name Write _ m refl (same_Some _ m e) h

  member_of_monitor : (n : ℕ) (m : Method) → slice_get (methods_declared tree monitor_name) n ≡ Some m → action_of monitor_name m ≡ None → HasTyping monitor_name m
  member_of_monitor zero m e h = acts_at_once monitor_name Enter _ m refl (same_Some _ m e) h
  member_of_monitor (suc zero) m e h = acts_at_once monitor_name Exit _ m refl (same_Some _ m e) h
  member_of_monitor (suc (suc n)) m e h = none_is_some m e

  member_of_thread : (n : ℕ) (m : Method) → slice_get (methods_declared tree thread_name) n ≡ Some m → action_of thread_name m ≡ None → HasTyping thread_name m
  member_of_thread zero m e h = acts_at_once thread_name Construct _ m refl (same_Some _ m e) h
  member_of_thread (suc zero) m e h = let P : Method → Type 0 = λ x. HasTyping thread_name x in subst P (same_Some run_method m e) (Some [] ∷ [], run_typing)
  member_of_thread (suc (suc zero)) m e h = acts_at_once thread_name Start _ m refl (same_Some _ m e) h
  member_of_thread (suc (suc (suc zero))) m e h = acts_at_once thread_name Join _ m refl (same_Some _ m e) h
  member_of_thread (suc (suc (suc (suc n)))) m e h = none_is_some m e

  -- a method of a class of the source
  source_has_typing : IsAccepted tree → (x : Class) (m : Method) → Occurs tree.classes x → Occurs (method_members x) m → HasTyping (source_name x) m
  source_has_typing accepted x m there own =
      let own_pair : Occurs (map (λ (k : Method). (source_name x, k)) (method_members x)) (source_name x, m) = occurs_in_map (λ (k : Method). (source_name x, k)) (method_members x) m own in
      let s : Occurs (source_methods tree) (source_name x, m) = occurs_in_flat (λ (c : Class). map (λ (k : Method). (source_name c, k)) (method_members c)) tree.classes x (source_name x, m) there own_pair in
      accepted.typed s.0 (source_name x) m s.1

  -- a method that some class declares and that does not act at once
  framed_by : IsAccepted tree → (n : ℕ) (m : Method) {c : ClassName} → ThreadStatus tree c → slice_get (methods_declared tree c) n ≡ Some m → action_of c m ≡ None → HasTyping c m
  framed_by accepted n m {c} (of_source x found) e h =
      let own : slice_get (method_members x) n ≡ Some m = sym (ap (λ o. slice_get (listed_by (λ (d : Declaration). d.methods) o) n) (source_declares tree c x found)) ∙ e in
      subst (λ k. HasTyping k m) (source_is_named tree c x found) (source_has_typing accepted x m (found_refines (λ (y : Class). same_class (source_name y) c) tree.classes x found) (n, own))
  framed_by accepted n m of_object e h = member_of_object n m e h
  framed_by accepted n m of_string e h = none_is_some m e
  framed_by accepted n m of_console e h = member_of_console n m e h
  framed_by accepted n m of_monitor e h = member_of_monitor n m e h
  framed_by accepted n m of_thread e h = member_of_thread n m e h
  framed_by accepted n m (of_none none) e h = none_is_some m (sym (ap (λ o. slice_get (listed_by (λ (d : Declaration). d.methods) o) n) none) ∙ e)

  pub framed_has_typing : IsAccepted tree → (c : ClassName) (n : ℕ) (m : Method) → slice_get (methods_declared tree c) n ≡ Some m → action_of c m ≡ None → HasTyping c m
  framed_has_typing accepted c n m e h = framed_by accepted n m (thread_status tree c) e h
