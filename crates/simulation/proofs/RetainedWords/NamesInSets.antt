-- Where the roots and the objects of a set refer to objects of the set alone, what a machine represents it represents under their names alone too.
use Rattle.std.proofs.Common.{◌≡◌, ℕ, suc, Bool, true, false, if◌then◌else◌, List, [], ◌∷◌, Option, Some, None, slice_get, refl, sym, ap, ◌∙◌, subst}
use Rattle.std.specs.Prelude.{option_and_then}
use Rattle.std.specs.List.{AllByRecursion}
use Rattle.interpreter.specs.cil_model.declared.limits.Limits.{Limits}
use Rattle.interpreter.specs.cil_model.declared.reports.End.{End}
use Rattle.interpreter.specs.cil_model.declared.trees.Tree.{Tree}
use Rattle.interpreter.specs.cil_model.Fields.{FieldKey}
use Rattle.interpreter.proofs.cil_model.Lists.{none_is_some}
use Rattle.interpreter.specs.reference_machine.Values.{Born, Literal, ObjectName, Reference, Value as StateValue}
use Rattle.interpreter.specs.reference_machine.Reachable.{constructed_value, values_of_contents}
use Rattle.interpreter.specs.reference_machine.States.{Array as IsArray, Contents, Frame as StateFrame, Instance as IsInstance, State, Thread as StateThread}
use Rattle.interpreter.specs.object_memory.declared.addresses.Addr.{Addr}
use Rattle.interpreter.specs.object_memory.declared.kinds.Kind.{Kind}
use Rattle.interpreter.specs.object_memory.declared.kinds.Kind.TheVariants.{Array, Instance}
use Rattle.interpreter.specs.object_memory.declared.values.Value.{Value}
use Rattle.interpreter.specs.object_memory.Cells.{literal}
use Rattle.interpreter.specs.object_memory.Objects.{Objects}
use Rattle.interpreter.specs.threads_monitors.Frames.{Frame}
use Rattle.interpreter.specs.threads_monitors.declared.threads.ThreadStatus.{ThreadStatus}
use Rattle.interpreter.specs.threads_monitors.declared.threads.ThreadStatus.TheVariants.{Live}
use Rattle.interpreter.specs.threads_monitors.declared.threads.Thread.{Thread}
use Rattle.reference_machine.proofs.ReachableObjects.States.{AreFramesWithin, HoldsWithin, IsClosed, IsFrameWithin}
use Rattle.reference_machine.proofs.ReachableObjects.Values.{AreWithin, IsWithin, values_of}
use Rattle.simulation.specs.Agreement.{Agree}
use Rattle.simulation.specs.MachineStates.{MachineState}
use Rattle.simulation.specs.Refines.{IsBornAt, IsFrame, IsHeap, IsObject, IsOfContents, IsThread, IsValue, IsWord, Names, StatusRefines, RefinesUnder, reference}
use Rattle.simulation.proofs.Memory.NamedAddresses.{born_renamed}
use Rattle.simulation.proofs.Representation.MoreNames.{value_renamed}

-- lists whose elements stand in a relation stand in another one that follows for those of the second list
agree_within : {A B : Type 0} (P : B → Type 0) (R S : A → B → Type 0) → ((x : A) (y : B) → P y → R x y → S x y) → (xs : List A) (ys : List B) → AllByRecursion P ys → Agree R xs ys → Agree S xs ys
agree_within P R S f [] [] each h = h
agree_within P R S f (x ∷ xs) (y ∷ ys) each h = (f x y each.0 h.0, agree_within P R S f xs ys each.1 h.1)
agree_within P R S f _ _ each h = elim h [ ]

module _ (is_inside : ℕ → Bool) where
  -- the name of an object of the set, or of a literal
  abbrev pub name_inside : ObjectName → Option ObjectName
  name_inside (Born n) = if is_inside n then Some (Born n) else None
  name_inside (Literal characters) = Some (Literal characters)

  abbrev pub cut_inside : Names → Names
  cut_inside name a = option_and_then name_inside (name a)

  -- such a name was there, and is one of the set
  pub inside_was : (name : Names) (a : ℕ) (n : ObjectName) → cut_inside name a ≡ Some n → name a ≡ Some n
  inside_was name a n is = by_name (name a) is
    where
      by_born : (k : ℕ) (t : Bool) → (if t then Some (Born k) else None) ≡ Some n → Some (Born k) ≡ Some n
      by_born k true e = e
      by_born k false e = none_is_some n e

      by_name : (x : Option ObjectName) → option_and_then name_inside x ≡ Some n → x ≡ Some n
      by_name None e = none_is_some n e
      by_name (Some (Born k)) e = by_born k (is_inside k) e
      by_name (Some (Literal characters)) e = e

  pub inside_is : (name : Names) (a : ℕ) (n : ObjectName) → cut_inside name a ≡ Some n → name_inside n ≡ Some n
  inside_is name a n is = ap (option_and_then name_inside) (sym (inside_was name a n is)) ∙ is

  pub born_inside : (n : ℕ) → name_inside (Born n) ≡ Some (Born n) → is_inside n ≡ true
  born_inside n e = by_test (is_inside n) refl e
    where
      by_test : (t : Bool) → is_inside n ≡ t → (if t then Some (Born n) else None) ≡ Some (Born n) → is_inside n ≡ true
      by_test true test h = test
      by_test false test h = none_is_some (Born n) h

  pub is_cut_inside : (name : Names) (a : ℕ) (n : ObjectName) → name_inside n ≡ Some n → name a ≡ Some n → cut_inside name a ≡ Some n
  is_cut_inside name a n inside is = ap (option_and_then name_inside) is ∙ inside

  module _ (Inside : ℕ → Type 0) (decoded : (n : ℕ) → Inside n → is_inside n ≡ true) where
    -- a value that refers to the set alone refers to a name of it
    reference_inside : (n : ObjectName) → IsWithin Inside (Reference n) → name_inside n ≡ Some n
    reference_inside (Born n) h = ap (λ t. if t then Some (Born n) else None) (decoded n h)
    reference_inside (Literal characters) h = refl

    module _ (name : Names) where
      -- ---- values

      value_cut : (v : Value) (u : StateValue) → IsWithin Inside u → IsValue name v u → IsValue (cut_inside name) v u
      value_cut v u within = value_renamed name (cut_inside name) v u (λ a n _ is. is_cut_inside name a.number n (reference_inside n (subst (IsWithin Inside) is within)))

      values_cut : (vs : List Value) (us : List StateValue) → AreWithin Inside us → Agree (IsValue name) vs us → Agree (IsValue (cut_inside name)) vs us
      values_cut = agree_within (IsWithin Inside) (IsValue name) (IsValue (cut_inside name)) value_cut

      word_cut : (w : ℕ) (u : StateValue) → IsWithin Inside u → IsWord name w u → IsWord (cut_inside name) w u
      word_cut w u within h = record { value = h.value; refines = value_cut h.value u within h.refines; is = h.is }

      -- of entries under keys
      entries_cut : {A : Type 0} (R S : A → StateValue → Type 0) → ((x : A) (u : StateValue) → IsWithin Inside u → R x u → S x u) → (xs : List A) (es : List (FieldKey × StateValue)) → AreWithin Inside (values_of es) →
          Agree (λ x (e : FieldKey × StateValue). R x e.1) xs es → Agree (λ x (e : FieldKey × StateValue). S x e.1) xs es
      entries_cut R S f [] [] within h = h
      entries_cut R S f (x ∷ xs) (e ∷ es) within h = (f x e.1 within.0 h.0, entries_cut R S f xs es within.1 h.1)
      entries_cut R S f _ _ within h = elim h [ ]

      -- ---- objects

      contents_cut : (tree : Tree) (k : Kind) (slots : List ℕ) (c : Contents) (thread : Option ℕ) → AreWithin Inside (values_of_contents c) → IsOfContents tree name k slots c thread → IsOfContents tree (cut_inside name) k slots c thread
      contents_cut tree (Instance class) slots (IsInstance c fields) thread within h = record {
        class_is = h.class_is;
        words = h.words;
        slots_are = h.slots_are;
        values = entries_cut (IsWord name) (IsWord (cut_inside name)) word_cut h.words fields within h.values;
      }
      contents_cut tree (Array e) slots (IsArray t elements) thread within h = (h.0, agree_within (IsWithin Inside) (IsWord name) (IsWord (cut_inside name)) word_cut slots elements within h.1)
      contents_cut tree _ slots _ thread within h = h

      object_cut : (a : Option Addr) (n : Option ObjectName) → AreWithin Inside (constructed_value n) → IsObject name a n → IsObject (cut_inside name) a n
      object_cut (Some a) (Some n) within h = is_cut_inside name a.number n (reference_inside n within.0) h
      object_cut _ _ within h = h

      -- ---- frames

      frame_cut : (tree : Tree) (f : Frame) (g : StateFrame) → IsFrameWithin Inside g → IsFrame tree name f g → IsFrame tree (cut_inside name) f g
      frame_cut tree f g within h = record {
        method = h.method;
        pc = h.pc;
        arguments = values_cut f.arguments g.arguments within.arguments h.arguments;
        locals = values_cut f.locals g.locals within.locals h.locals;
        stack = values_cut f.stack g.stack within.stack h.stack;
        constructed = object_cut f.constructed g.constructed within.constructed h.constructed;
      }

      status_cut : (tree : Tree) (limits : Limits) (thread_status : ThreadStatus) (gs : List StateFrame) (e : Option End) → (e ≡ None → AreFramesWithin Inside gs) → StatusRefines tree limits name thread_status gs e → StatusRefines tree limits (cut_inside name) thread_status gs e
      status_cut tree limits (Live m) gs None within h = record {
        frames = agree_within (IsFrameWithin Inside) (IsFrame tree name) (IsFrame tree (cut_inside name)) (frame_cut tree) (m.running ∷ m.below) gs (within refl) h.frames;
        depth = h.depth;
        few = h.few;
        room = h.room;
      }
      status_cut tree limits _ gs _ within h = h

      -- threads, index by index
      threads_cut : (tree : Tree) (limits : Limits) (ts : List Thread) (us : List StateThread) → ((t : ℕ) (u : StateThread) → slice_get us t ≡ Some u → u.ended ≡ None → AreFramesWithin Inside u.frames) →
          Agree (IsThread tree limits name) ts us → Agree (IsThread tree limits (cut_inside name)) ts us
      threads_cut tree limits [] [] within h = h
      threads_cut tree limits (t ∷ ts) (u ∷ us) within h = (
        record { thread_status = status_cut tree limits t.thread_status u.frames u.ended (within 0 u refl) h.0.thread_status; steps_left = h.0.steps_left },
        threads_cut tree limits ts us (λ n x is. within (suc n) x is) h.1,
      )
      threads_cut tree limits _ _ within h = elim h [ ]

      -- ---- the whole

      module _ (tree : Tree) (o : Objects) (s : State) (closed : HoldsWithin Inside s) (inside : (n : ℕ) → is_inside n ≡ true → Inside n) where
        born_cut : (a n : ℕ) → cut_inside name a ≡ Some (Born n) → IsBornAt tree name o s a n → IsBornAt tree (cut_inside name) o s a n
        born_cut a n is b =
            born_renamed tree name (cut_inside name) o s a n b
            (contents_cut tree b.cell.kind b.cell.slots b.object.contents b.object.thread (closed.objects n b.object b.is (inside n (born_inside n (inside_is name a (Born n) is)))) b.refines.contents)

        heap_cut : IsHeap tree name o s → IsHeap tree (cut_inside name) o s
        heap_cut h = record {
          null_unnamed = ap (option_and_then name_inside) h.null_unnamed;
          small = λ a n is. h.small a n (inside_was name a n is);
          names = record {
            one = λ a b n is is'. h.names.one a b n (inside_was name a n is) (inside_was name b n is');
            twins = λ a b n k is is' twins. h.names.twins a b n k (inside_was name a n is) (inside_was name b k is') twins;
          };
          born = λ a n is. born_cut a n is (h.born a n (inside_was name a (Born n) is));
          literals = λ a characters is. h.literals a characters (inside_was name a (Literal characters) is);
          each_literal = λ n characters is. is_cut_inside name (literal n).number (Literal characters) refl (h.each_literal n characters is);
        }

    -- a machine represents its state under the names of the set
    pub refines_inside : (name : Names) (c : MachineState) (s : State) → IsClosed Inside s → ((n : ℕ) → is_inside n ≡ true → Inside n) → RefinesUnder name c s → RefinesUnder (cut_inside name) c s
    refines_inside name c s closed inside h = record {
      memory = record {
        heap = heap_cut name c.tree c.objects s closed.holds inside h.memory.heap;
        static_values = entries_cut name (IsValue name) (IsValue (cut_inside name)) (value_cut name) c.statics s.statics closed.holds.statics h.memory.static_values;
        printed_is = h.memory.printed_is;
      };
      threads = threads_cut name c.tree c.limits c.threads s.threads closed.holds.threads h.threads;
    }
