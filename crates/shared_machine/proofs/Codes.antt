-- A count fixes a worker's events, their reports and their order.
use Rattle.std.proofs.Common.{◌≡◌, ℕ, ◌+◌, ◌*◌, ◌≤◌, List, [], ◌∷◌, Some, refl, sym, ap, ◌∙◌, arith, Bool, true, false, nat_eq}
use Rattle.std.specs.Prelude.{slice_get}
use Rattle.cil_model.specs.declared.events.Event.{Event}
use Rattle.cil_model.specs.declared.events.Event.TheVariants.{Step, Ack, Gc}
use Rattle.cil_model.specs.declared.reports.End.TheVariants.{Done, Budget, Fault as ByFault}
use Rattle.cil_model.specs.declared.reports.Fault.{Fault}
use Rattle.cil_model.specs.declared.reports.Fault.TheVariants.{NullReference, IndexOutOfRange, ArrayTypeMismatch, InvalidCast, DivideByZero, Arithmetic, Overflow, OutOfMemory, TooManyThreads, StackOverflow, ArgumentNull, SynchronizationLock, ThreadState}
use Rattle.cil_model.specs.declared.reports.Report.{Report}
use Rattle.cil_model.specs.declared.reports.Report.TheVariants.{Ran, Blocked, Ended, Absent, Acked, NothingPosted, Worked, Waiting, CycleDone}
use Rattle.shared_machine.specs.Codes.{event_number, fault_number, report_number, code}
use Rattle.shared_machine.specs.Histories.{add_if, count_in_history, IsSmall, AreSmall, count_of_pairs, pairs_if, pairs_of, Fixes}
use Rattle.shared_machine.specs.declared.history.Entry.{Entry}

-- ---- each report has its own number

-- all reports, in the order of their numbers
abbrev reports : List Report
reports =
    Ran ∷ Blocked ∷ Absent ∷ Acked ∷ NothingPosted ∷ Worked ∷ Waiting ∷ CycleDone ∷ Ended Done ∷ Ended Budget
    ∷ Ended (ByFault NullReference) ∷ Ended (ByFault IndexOutOfRange) ∷ Ended (ByFault ArrayTypeMismatch) ∷ Ended (ByFault InvalidCast)
    ∷ Ended (ByFault DivideByZero) ∷ Ended (ByFault Arithmetic) ∷ Ended (ByFault Overflow) ∷ Ended (ByFault OutOfMemory)
    ∷ Ended (ByFault TooManyThreads) ∷ Ended (ByFault StackOverflow) ∷ Ended (ByFault ArgumentNull)
    ∷ Ended (ByFault SynchronizationLock) ∷ Ended (ByFault ThreadState) ∷ []

fault_there : (f : Fault) → slice_get reports (report_number (Ended (ByFault f))) ≡ Some (Ended (ByFault f))
fault_there NullReference = refl
fault_there IndexOutOfRange = refl
fault_there ArrayTypeMismatch = refl
fault_there InvalidCast = refl
fault_there DivideByZero = refl
fault_there Arithmetic = refl
fault_there Overflow = refl
fault_there OutOfMemory = refl
fault_there TooManyThreads = refl
fault_there StackOverflow = refl
fault_there ArgumentNull = refl
fault_there SynchronizationLock = refl
fault_there ThreadState = refl

there : (r : Report) → slice_get reports (report_number r) ≡ Some r
there Ran = refl
there Blocked = refl
there Absent = refl
there Acked = refl
there NothingPosted = refl
there Worked = refl
there Waiting = refl
there CycleDone = refl
there (Ended Done) = refl
there (Ended Budget) = refl
there (Ended (ByFault f)) = fault_there f

same_value : (r s : Report) → Some r ≡ Some s → r ≡ s
same_value r s e = cc

same_report : (r s : Report) → report_number r ≡ report_number s → r ≡ s
same_report r s e = same_value r s (sym (there r) ∙ ap (slice_get reports) e ∙ there s)

low_fault : (f : Fault) → fault_number f ≤ 12
low_fault NullReference = omega arith
low_fault IndexOutOfRange = omega arith
low_fault ArrayTypeMismatch = omega arith
low_fault InvalidCast = omega arith
low_fault DivideByZero = omega arith
low_fault Arithmetic = omega arith
low_fault Overflow = omega arith
low_fault OutOfMemory = omega arith
low_fault TooManyThreads = omega arith
low_fault StackOverflow = omega arith
low_fault ArgumentNull = omega arith
low_fault SynchronizationLock = omega arith
low_fault ThreadState = omega arith

low_report : (r : Report) → report_number r ≤ 22
low_report Ran = omega arith
low_report Blocked = omega arith
low_report Absent = omega arith
low_report Acked = omega arith
low_report NothingPosted = omega arith
low_report Worked = omega arith
low_report Waiting = omega arith
low_report CycleDone = omega arith
low_report (Ended Done) = omega arith
low_report (Ended Budget) = omega arith
low_report (Ended (ByFault f)) = let low = low_fault f in omega (arith, low)

-- ---- each event has its own number

same_event : (d e : Event) → event_number d ≡ event_number e → d ≡ e
same_event Gc Gc e = refl
same_event Gc (Step t) e = absurd (omega (arith, e))
same_event Gc (Ack t) e = absurd (omega (arith, e))
same_event (Step t) Gc e = absurd (omega (arith, e))
same_event (Step t) (Step u) e = let h : t ≡ u = omega (arith, e) in ap Step h
same_event (Step t) (Ack u) e = absurd (omega (arith, e))
same_event (Ack t) Gc e = absurd (omega (arith, e))
same_event (Ack t) (Step u) e = absurd (omega (arith, e))
same_event (Ack t) (Ack u) e = let h : t ≡ u = omega (arith, e) in ap Ack h

-- ---- each pair has its own code

pub small_code : (e : Event) (r : Report) → IsSmall e → (1 ≤ code e r) × (code e r ≤ 65535)
small_code e r h = let low = low_report r in (omega arith, omega (arith, low, h))

pub same_code : (d e : Event) (r s : Report) → code d r ≡ code e s → (d ≡ e) × (r ≡ s)
same_code d e r s h =
    let a = low_report r in
    let b = low_report s in
    (same_event d e (omega (arith, h, a, b)), same_report r s (omega (arith, h, a, b)))

-- ---- and each list of them its own count

pub same_pairs : (ps qs : List (Event × Report)) → AreSmall ps → AreSmall qs → count_of_pairs ps ≡ count_of_pairs qs → ps ≡ qs
same_pairs [] [] h k e = refl
same_pairs [] (q ∷ qs) h k e = let b = small_code q.0 q.1 k.0 in absurd (omega (arith, e, b.0))
same_pairs (p ∷ ps) [] h k e = let b = small_code p.0 p.1 h.0 in absurd (omega (arith, e, b.0))
same_pairs (p ∷ ps) (q ∷ qs) h k e =
    let a = small_code p.0 p.1 h.0 in
    let b = small_code q.0 q.1 k.0 in
    let m : ℕ = code p.0 p.1 in
    let n : ℕ = code q.0 q.1 in
    let x : ℕ = count_of_pairs ps in
    let y : ℕ = count_of_pairs qs in
    let e' : 65536 * x + m ≡ 65536 * y + n = e in
    let lo : m ≤ 65535 = a.1 in
    let lo' : n ≤ 65535 = b.1 in
    let rest : x ≡ y = omega arith in
    let here : m ≡ n = omega arith in
    let t = same_pairs ps qs h.1 k.1 rest in
    let c = same_code p.0 q.0 p.1 q.1 here in
    λ i. (c.0 i, c.1 i) ∷ t i

add_pairs : (b : Bool) (e : Entry) (ps : List (Event × Report)) → add_if b e (count_of_pairs ps) ≡ count_of_pairs (pairs_if b e ps)
add_pairs true e ps = refl
add_pairs false e ps = refl

counted_pairs : (w : ℕ) (ps : List (Event × Report)) (h : List Entry) → count_in_history w (count_of_pairs ps) h ≡ count_of_pairs (pairs_of w ps h)
counted_pairs w ps [] = refl
counted_pairs w ps (e ∷ es) = ap (λ c. count_in_history w c es) (add_pairs (nat_eq e.worker w) e ps) ∙ counted_pairs w (pairs_if (nat_eq e.worker w) e ps) es

pub fixes : (w : ℕ) (h k : List Entry) → Fixes w h k
fixes w h k small small' same = same_pairs (pairs_of w [] h) (pairs_of w [] k) small small' (sym (counted_pairs w [] h) ∙ same ∙ counted_pairs w [] k)
