-- The conditions of the calls of the test in each phase, and what each call leaves.
use Rattle.std.proofs.Common.{◌≡◌, ◌<◌, Bool, true, length, refl, sym, subst, Option, List}
use Rattle.std.proofs.lemmas.Bool.{ltb-true}
use Rattle.std.specs.Prelude.{nat_lt, is_some, IsSome}
use Rattle.cil_model.specs.declared.phases.Phase.{Phase}
use Rattle.cil_model.specs.declared.phases.Phase.TheVariants.{Idle, Mark, Allocate, Copy, PreFlip, HeapFlip, ThreadFlip, Reclaim}
use Rattle.object_memory.specs.declared.addresses.Addr.{Addr}
use Rattle.object_memory.specs.declared.kinds.Kind.TheVariants.{Instance}
use Rattle.object_memory.specs.declared.monitors.Monitor.TheVariants.{Held}
use Rattle.object_memory.specs.declared.values.Value.{Value}
use Rattle.object_memory.specs.declared.values.Value.TheVariants.{Ref}
use Rattle.object_memory.specs.Cells.{literal}
use Rattle.object_memory.specs.Objects.{Objects, monitor_at, object_slots}
use Rattle.barriers.specs.Barriers.{can_allocate, is_monitor_storable, is_static_storable, is_storable, is_word_storable, object_born, stored_int, stored_monitor, stored_ref, stored_static, stored_value}
use Rattle.api_tests.specs.TestHeap.{IsSeen, after_birth, after_guest, after_host, after_int, after_ints, after_monitors, after_ref, after_refs, after_static, after_statics, after_value, after_values, fields, guest, guest_copied, host, host_copied, other_white, test_objects, white}

-- what holds in each of the eight phases
in_all : (p : Phase → Bool) → p Idle ≡ true → p Mark ≡ true → p Allocate ≡ true → p Copy ≡ true → p PreFlip ≡ true → p HeapFlip ≡ true → p ThreadFlip ≡ true → p Reclaim ≡ true → (f : Phase) → p f ≡ true
in_all p a b c d e f g h Idle = a
in_all p a b c d e f g h Mark = b
in_all p a b c d e f g h Allocate = c
in_all p a b c d e f g h Copy = d
in_all p a b c d e f g h PreFlip = e
in_all p a b c d e f g h HeapFlip = f
in_all p a b c d e f g h ThreadFlip = g
in_all p a b c d e f g h Reclaim = h

-- what holds of some values holds of values that equal them
along_two : {A B : Type 0} (P : A → B → Type 0) {x u : A} {y v : B} → u ≡ x → v ≡ y → P x y → P u v
along_two P {x} {u} {y} {v} e d p = subst (λ a. P a v) (sym e) (subst (λ b. P x b) (sym d) p)

along : {A B C : Type 0} (P : A → B → C → Type 0) {x u : A} {y v : B} {z w : C} → u ≡ x → v ≡ y → w ≡ z → P x y z → P u v w
along P {x} {u} {y} {v} {z} {w} e d c p = subst (λ a. P a v w) (sym e) (along_two (P x) d c p)

-- ---- slots

pub first_ref_done : (f : Phase) {o p : Objects} {a : Addr} {b : Addr} → o ≡ test_objects → a ≡ host → b ≡ guest → p ≡ stored_ref f o a 0 b → p ≡ after_ref f
first_ref_done f {p = p} eo ea eb = along (λ o a b. p ≡ stored_ref f o a 0 b → p ≡ after_ref f) eo ea eb (λ e. e)

pub second_ref : (f : Phase) {o : Objects} {a : Addr} {b : Addr} → o ≡ after_ref f → a ≡ host_copied → b ≡ guest → is_storable f o a 1 (Ref b) ≡ true
second_ref f eo ea eb = along (λ o a b. is_storable f o a 1 (Ref b) ≡ true) eo ea eb (in_all (λ g. is_storable g (after_ref g) host_copied 1 (Ref guest)) refl refl refl refl refl refl refl refl f)

pub second_ref_done : (f : Phase) {o p : Objects} {a : Addr} {b : Addr} → o ≡ after_ref f → a ≡ host_copied → b ≡ guest → p ≡ stored_ref f o a 1 b → p ≡ after_refs f
second_ref_done f {p = p} eo ea eb = along (λ o a b. p ≡ stored_ref f o a 1 b → p ≡ after_refs f) eo ea eb (λ e. e)

pub first_value : (f : Phase) {o : Objects} {a : Addr} {b : Addr} → o ≡ after_refs f → a ≡ host → b ≡ white → is_storable f o a 2 (Ref b) ≡ true
first_value f eo ea eb = along (λ o a b. is_storable f o a 2 (Ref b) ≡ true) eo ea eb (in_all (λ g. is_storable g (after_refs g) host 2 (Ref white)) refl refl refl refl refl refl refl refl f)

pub first_value_done : (f : Phase) {o p : Objects} {a : Addr} {b : Addr} → o ≡ after_refs f → a ≡ host → b ≡ white → p ≡ stored_value f o a 2 (Ref b) → p ≡ after_value f
first_value_done f {p = p} eo ea eb = along (λ o a b. p ≡ stored_value f o a 2 (Ref b) → p ≡ after_value f) eo ea eb (λ e. e)

pub second_inside : (f : Phase) {o : Objects} {a : Addr} → o ≡ after_value f → a ≡ host_copied → 3 < length (object_slots o a)
second_inside f eo ea = along_two (λ o a. 3 < length (object_slots o a)) eo ea (ltb-true 3 (length (object_slots (after_value f) host_copied)) (in_all (λ g. nat_lt 3 (length (object_slots (after_value g) host_copied))) refl refl refl refl refl refl refl refl f))

pub second_value : (f : Phase) {o : Objects} {a : Addr} {b : Addr} → o ≡ after_value f → a ≡ host_copied → b ≡ literal 0 → is_storable f o a 3 (Ref b) ≡ true
second_value f eo ea eb = along (λ o a b. is_storable f o a 3 (Ref b) ≡ true) eo ea eb (in_all (λ g. is_storable g (after_value g) host_copied 3 (Ref (literal 0))) refl refl refl refl refl refl refl refl f)

pub second_value_done : (f : Phase) {o p : Objects} {a : Addr} {b : Addr} → o ≡ after_value f → a ≡ host_copied → b ≡ literal 0 → p ≡ stored_value f o a 3 (Ref b) → p ≡ after_values f
second_value_done f {p = p} eo ea eb = along (λ o a b. p ≡ stored_value f o a 3 (Ref b) → p ≡ after_values f) eo ea eb (λ e. e)

pub first_int : (f : Phase) {o : Objects} {a : Addr} → o ≡ after_values f → a ≡ host → is_word_storable f o a 4 ≡ true
first_int f eo ea = along_two (λ o a. is_word_storable f o a 4 ≡ true) eo ea (in_all (λ g. is_word_storable g (after_values g) host 4) refl refl refl refl refl refl refl refl f)

pub first_int_done : (f : Phase) {o p : Objects} {a : Addr} → o ≡ after_values f → a ≡ host → p ≡ stored_int f o a 4 9 → p ≡ after_int f
first_int_done f {p = p} eo ea = along_two (λ o a. p ≡ stored_int f o a 4 9 → p ≡ after_int f) eo ea (λ e. e)

pub int_inside : (f : Phase) {o : Objects} {a : Addr} → o ≡ after_int f → a ≡ host_copied → 5 < length (object_slots o a)
int_inside f eo ea = along_two (λ o a. 5 < length (object_slots o a)) eo ea (ltb-true 5 (length (object_slots (after_int f) host_copied)) (in_all (λ g. nat_lt 5 (length (object_slots (after_int g) host_copied))) refl refl refl refl refl refl refl refl f))

pub second_int : (f : Phase) {o : Objects} {a : Addr} → o ≡ after_int f → a ≡ host_copied → is_word_storable f o a 5 ≡ true
second_int f eo ea = along_two (λ o a. is_word_storable f o a 5 ≡ true) eo ea (in_all (λ g. is_word_storable g (after_int g) host_copied 5) refl refl refl refl refl refl refl refl f)

pub second_int_done : (f : Phase) {o p : Objects} {a : Addr} → o ≡ after_int f → a ≡ host_copied → p ≡ stored_int f o a 5 8 → p ≡ after_ints f
second_int_done f {p = p} eo ea = along_two (λ o a. p ≡ stored_int f o a 5 8 → p ≡ after_ints f) eo ea (λ e. e)

-- ---- monitors

pub host_there : (f : Phase) {o : Objects} {a : Addr} → o ≡ after_ints f → a ≡ host → IsSome (monitor_at o a)
host_there f eo ea = along_two (λ o x. IsSome (monitor_at o x)) eo ea (in_all (λ g. is_some (monitor_at (after_ints g) host)) refl refl refl refl refl refl refl refl f)

pub host_ready : (f : Phase) {o : Objects} {a : Addr} → o ≡ after_ints f → a ≡ host → is_monitor_storable f o a ≡ true
host_ready f eo ea = along_two (λ o a. is_monitor_storable f o a ≡ true) eo ea (in_all (λ g. is_monitor_storable g (after_ints g) host) refl refl refl refl refl refl refl refl f)

pub host_done : (f : Phase) {o p : Objects} {a : Addr} → o ≡ after_ints f → a ≡ host → p ≡ stored_monitor f o a (Held 3 1) → p ≡ after_host f
host_done f {p = p} eo ea = along_two (λ o a. p ≡ stored_monitor f o a (Held 3 1) → p ≡ after_host f) eo ea (λ e. e)

pub guest_there : (f : Phase) {o : Objects} {a : Addr} → o ≡ after_host f → a ≡ guest_copied → IsSome (monitor_at o a)
guest_there f eo ea = along_two (λ o x. IsSome (monitor_at o x)) eo ea (in_all (λ g. is_some (monitor_at (after_host g) guest_copied)) refl refl refl refl refl refl refl refl f)

pub guest_ready : (f : Phase) {o : Objects} {a : Addr} → o ≡ after_host f → a ≡ guest_copied → is_monitor_storable f o a ≡ true
guest_ready f eo ea = along_two (λ o a. is_monitor_storable f o a ≡ true) eo ea (in_all (λ g. is_monitor_storable g (after_host g) guest_copied) refl refl refl refl refl refl refl refl f)

pub guest_done : (f : Phase) {o p : Objects} {a : Addr} → o ≡ after_host f → a ≡ guest_copied → p ≡ stored_monitor f o a (Held 4 2) → p ≡ after_guest f
guest_done f {p = p} eo ea = along_two (λ o a. p ≡ stored_monitor f o a (Held 4 2) → p ≡ after_guest f) eo ea (λ e. e)

pub text_ready : (f : Phase) {o : Objects} {a : Addr} → o ≡ after_guest f → a ≡ literal 0 → is_monitor_storable f o a ≡ true
text_ready f eo ea = along_two (λ o a. is_monitor_storable f o a ≡ true) eo ea (in_all (λ g. is_monitor_storable g (after_guest g) (literal 0)) refl refl refl refl refl refl refl refl f)

pub text_done : (f : Phase) {o p : Objects} {a : Addr} → o ≡ after_guest f → a ≡ literal 0 → p ≡ stored_monitor f o a (Held 5 3) → p ≡ after_monitors f
text_done f {p = p} eo ea = along_two (λ o a. p ≡ stored_monitor f o a (Held 5 3) → p ≡ after_monitors f) eo ea (λ e. e)

-- ---- static fields, and the birth

pub first_static : (f : Phase) {o : Objects} {b : Addr} → o ≡ after_monitors f → b ≡ other_white → is_static_storable f o (Ref b) ≡ true
first_static f eo eb = along_two (λ o b. is_static_storable f o (Ref b) ≡ true) eo eb (in_all (λ g. is_static_storable g (after_monitors g) (Ref other_white)) refl refl refl refl refl refl refl refl f)

pub first_static_done : (f : Phase) {o p : Objects} {xs ys : List Value} {b : Addr} → o ≡ after_monitors f → xs ≡ fields → b ≡ other_white → (p, ys) ≡ stored_static f o xs 0 (Ref b) → (p, ys) ≡ after_static f
first_static_done f {p = p} {ys = ys} eo es eb = along (λ o xs b. (p, ys) ≡ stored_static f o xs 0 (Ref b) → (p, ys) ≡ after_static f) eo es eb (λ e. e)

pub second_static : (f : Phase) {o : Objects} {xs : List Value} {b : Addr} → (o, xs) ≡ after_static f → b ≡ guest → is_static_storable f o (Ref b) ≡ true
second_static f e eb = along_two (λ (x : Objects × List Value) b. is_static_storable f x.0 (Ref b) ≡ true) e eb (in_all (λ g. is_static_storable g ((after_static g).0) (Ref guest)) refl refl refl refl refl refl refl refl f)

pub second_static_done : (f : Phase) {o p : Objects} {xs ys : List Value} {b : Addr} → (o, xs) ≡ after_static f → b ≡ guest → (p, ys) ≡ stored_static f o xs 1 (Ref b) → (p, ys) ≡ after_statics f
second_static_done f {p = p} {ys = ys} e eb = along_two (λ (x : Objects × List Value) b. (p, ys) ≡ stored_static f x.0 x.1 1 (Ref b) → (p, ys) ≡ after_statics f) e eb (λ d. d)

pub bears : (f : Phase) {o : Objects} {xs : List Value} → (o, xs) ≡ after_statics f → can_allocate f o ≡ true
bears f e = subst (λ (x : Objects × List Value). can_allocate f x.0 ≡ true) (sym e) (in_all (λ g. can_allocate g ((after_statics g).0)) refl refl refl refl refl refl refl refl f)

pub born : (f : Phase) {o p : Objects} {xs : List Value} {r : Option Addr} → (o, xs) ≡ after_statics f → (p, r) ≡ object_born f o (Instance 5) 2 → (p, r) ≡ after_birth f
born f {p = p} {r = r} e = subst (λ (x : Objects × List Value). (p, r) ≡ object_born f x.0 (Instance 5) 2 → (p, r) ≡ after_birth f) (sym e) (λ d. d)

-- ---- what is read

reported : (f : Phase) → IsSeen f ((after_birth f).0) ((after_birth f).1)
reported Idle = record { old_slots = refl; new_slots = refl; white_there = refl; other_white_there = refl; host_monitor = refl; host_copied_monitor = refl; guest_monitor = refl; guest_copied_monitor = refl; text_monitor = refl; twins = refl; others = refl; nulls = refl; born = refl; copy = refl }
reported Mark = record { old_slots = refl; new_slots = refl; white_there = refl; other_white_there = refl; host_monitor = refl; host_copied_monitor = refl; guest_monitor = refl; guest_copied_monitor = refl; text_monitor = refl; twins = refl; others = refl; nulls = refl; born = refl; copy = refl }
reported Allocate = record { old_slots = refl; new_slots = refl; white_there = refl; other_white_there = refl; host_monitor = refl; host_copied_monitor = refl; guest_monitor = refl; guest_copied_monitor = refl; text_monitor = refl; twins = refl; others = refl; nulls = refl; born = refl; copy = refl }
reported Copy = record { old_slots = refl; new_slots = refl; white_there = refl; other_white_there = refl; host_monitor = refl; host_copied_monitor = refl; guest_monitor = refl; guest_copied_monitor = refl; text_monitor = refl; twins = refl; others = refl; nulls = refl; born = refl; copy = refl }
reported PreFlip = record { old_slots = refl; new_slots = refl; white_there = refl; other_white_there = refl; host_monitor = refl; host_copied_monitor = refl; guest_monitor = refl; guest_copied_monitor = refl; text_monitor = refl; twins = refl; others = refl; nulls = refl; born = refl; copy = refl }
reported HeapFlip = record { old_slots = refl; new_slots = refl; white_there = refl; other_white_there = refl; host_monitor = refl; host_copied_monitor = refl; guest_monitor = refl; guest_copied_monitor = refl; text_monitor = refl; twins = refl; others = refl; nulls = refl; born = refl; copy = refl }
reported ThreadFlip = record { old_slots = refl; new_slots = refl; white_there = refl; other_white_there = refl; host_monitor = refl; host_copied_monitor = refl; guest_monitor = refl; guest_copied_monitor = refl; text_monitor = refl; twins = refl; others = refl; nulls = refl; born = refl; copy = refl }
reported Reclaim = record { old_slots = refl; new_slots = refl; white_there = refl; other_white_there = refl; host_monitor = refl; host_copied_monitor = refl; guest_monitor = refl; guest_copied_monitor = refl; text_monitor = refl; twins = refl; others = refl; nulls = refl; born = refl; copy = refl }

pub seen : (f : Phase) (o : Objects) (born : Option Addr) → (o, born) ≡ after_birth f → IsSeen f o born
seen f o born e = subst (λ (x : Objects × Option Addr). IsSeen f x.0 x.1) (sym e) (reported f)
