-- What an acknowledgement does, case by case: nothing, or a round is answered, with marks or without, or a phase is acknowledged, with a flip or without.
use Rattle.std.proofs.Common.{◌≡◌, ℕ, Bool, true, false, not, ◌&&◌, if◌then◌else◌, List, Option, Some, None, slice_get, slice_set, refl, sym, ap, ◌∙◌, subst}
use Rattle.std.specs.Option.{option_map_or}
use Rattle.interpreter.specs.cil_model.declared.phases.Phase.TheVariants.{ThreadFlip}
use Rattle.interpreter.specs.object_memory.Objects.{Objects}
use Rattle.interpreter.specs.threads_monitors.declared.threads.Thread.{Thread}
use Rattle.collector.specs.Holds.{is_marking}
use Rattle.collector.specs.phase_handshake.Handshakes.{Handshakes, acknowledge_phase, is_open_to, is_phase, seat_after, seat_of}
use Rattle.collector.specs.phase_handshake.declared.posts.Seat.{Seat}
use Rattle.simulation.specs.CollectorSteps.{answers_round, flips_frames, objects_after, threads_after, with_acknowledgement, with_flipped, with_thread_marked}
use Rattle.simulation.specs.MachineStates.{MachineState}
use Rattle.std.proofs.lemmas.Bool.{or_parts}
use Rattle.std.proofs.Math.Bool.{and-false}

-- the posts once a thread with this seat has answered
abbrev pub posts_after : MachineState → ℕ → Seat → Handshakes
posts_after c t seat = record c.posts { seats = slice_set c.posts.seats t (Some (seat_after c.posts.posted_phase seat)) }

-- what each case has to show
pub record AcknowledgementCases (c : MachineState) (t : ℕ) (P : MachineState → Type 0) : Type 0 where
  pub nothing : P c
  pub marks : (seat : Seat) → seat_of c.posts t ≡ Some seat → is_open_to c.posts.posted_phase c.posts.has_round seat ≡ true → is_phase seat.phase c.posts.posted_phase ≡ true → is_marking c.posts.posted_phase ≡ true →
      P (record c { posts = posts_after c t seat; objects = with_thread_marked c.objects (slice_get c.threads t) })
  pub answers : (seat : Seat) → seat_of c.posts t ≡ Some seat → is_open_to c.posts.posted_phase c.posts.has_round seat ≡ true → is_phase seat.phase c.posts.posted_phase ≡ true → is_marking c.posts.posted_phase ≡ false →
      P (record c { posts = posts_after c t seat })
  pub continues : (seat : Seat) → seat_of c.posts t ≡ Some seat → is_open_to c.posts.posted_phase c.posts.has_round seat ≡ true → is_phase seat.phase c.posts.posted_phase ≡ false → is_phase c.posts.posted_phase ThreadFlip ≡ false →
      P (record c { posts = posts_after c t seat })
  pub flips : (seat : Seat) → seat_of c.posts t ≡ Some seat → is_open_to c.posts.posted_phase c.posts.has_round seat ≡ true → is_phase seat.phase c.posts.posted_phase ≡ false → is_phase c.posts.posted_phase ThreadFlip ≡ true →
      P (record c { threads = with_flipped c.objects c.threads t (slice_get c.threads t); posts = posts_after c t seat })

module _ (c : MachineState) (t : ℕ) (P : MachineState → Type 0) (cases : AcknowledgementCases c t P) where
  -- the machine state by its parts
  of_parts : (threads : List Thread) (posts : Handshakes) (objects : Objects) → threads_after c t ≡ threads → acknowledge_phase c.posts t ≡ posts → objects_after c t ≡ objects →
      P (record c { threads = threads; posts = posts; objects = objects }) → P (with_acknowledgement c t).0
  of_parts threads posts objects e f g h =
      subst (λ x. P (record c { threads = x; posts = acknowledge_phase c.posts t; objects = objects_after c t })) (sym e)
      (subst (λ x. P (record c { threads = threads; posts = x; objects = objects_after c t })) (sym f)
      (subst (λ x. P (record c { threads = threads; posts = posts; objects = x })) (sym g) h))

  threads_by : (b : Bool) → flips_frames c t ≡ b → threads_after c t ≡ (if b then with_flipped c.objects c.threads t (slice_get c.threads t) else c.threads)
  threads_by b e = ap (λ x. if x then with_flipped c.objects c.threads t (slice_get c.threads t) else c.threads) e

  objects_by : (b : Bool) → answers_round c t ≡ b → objects_after c t ≡ (if b then with_thread_marked c.objects (slice_get c.threads t) else c.objects)
  objects_by b e = ap (λ x. if x then with_thread_marked c.objects (slice_get c.threads t) else c.objects) e

  -- without a seat nothing is asked
  seatless : seat_of c.posts t ≡ None → P (with_acknowledgement c t).0
  seatless none =
      of_parts c.threads c.posts c.objects
      (threads_by false (ap (λ o. is_phase c.posts.posted_phase ThreadFlip && option_map_or (λ (s : Seat). not (is_phase s.phase c.posts.posted_phase)) o false) none ∙ and-false (is_phase c.posts.posted_phase ThreadFlip)))
      (ap (λ o. option_map_or (λ (s : Seat). if is_open_to c.posts.posted_phase c.posts.has_round s then posts_after c t s else c.posts) o c.posts) none)
      (objects_by false
      (ap (λ o. option_map_or (is_open_to c.posts.posted_phase c.posts.has_round) o false && (is_marking c.posts.posted_phase && option_map_or (λ (s : Seat). is_phase s.phase c.posts.posted_phase) (seat_of c.posts t) false)) none))
      cases.nothing

  module _ (seat : Seat) (here : seat_of c.posts t ≡ Some seat) where
    flips_is : flips_frames c t ≡ (is_phase c.posts.posted_phase ThreadFlip && not (is_phase seat.phase c.posts.posted_phase))
    flips_is = ap (λ o. is_phase c.posts.posted_phase ThreadFlip && option_map_or (λ (s : Seat). not (is_phase s.phase c.posts.posted_phase)) o false) here

    answers_is : (b : Bool) → is_open_to c.posts.posted_phase c.posts.has_round seat ≡ b → answers_round c t ≡ (b && (is_marking c.posts.posted_phase && is_phase seat.phase c.posts.posted_phase))
    answers_is b e =
        ap (λ o. option_map_or (is_open_to c.posts.posted_phase c.posts.has_round) o false && (is_marking c.posts.posted_phase && option_map_or (λ (s : Seat). is_phase s.phase c.posts.posted_phase) o false)) here ∙
        ap (λ x. x && (is_marking c.posts.posted_phase && is_phase seat.phase c.posts.posted_phase)) e

    posts_by : (b : Bool) → is_open_to c.posts.posted_phase c.posts.has_round seat ≡ b → acknowledge_phase c.posts t ≡ (if b then posts_after c t seat else c.posts)
    posts_by b e =
        ap (λ o. option_map_or (λ (s : Seat). if is_open_to c.posts.posted_phase c.posts.has_round s then posts_after c t s else c.posts) o c.posts) here ∙
        ap (λ x. if x then posts_after c t seat else c.posts) e

    -- nothing is open
    closed_to : is_open_to c.posts.posted_phase c.posts.has_round seat ≡ false → P (with_acknowledgement c t).0
    closed_to shut =
        let seen = (or_parts (not (is_phase seat.phase c.posts.posted_phase)) (c.posts.has_round && not seat.answered) shut).0 in
        of_parts c.threads c.posts c.objects
        (threads_by false (flips_is ∙ ap (λ x. is_phase c.posts.posted_phase ThreadFlip && x) seen ∙ and-false (is_phase c.posts.posted_phase ThreadFlip)))
        (posts_by false shut)
        (objects_by false (answers_is false shut))
        cases.nothing

    module _ (opened : is_open_to c.posts.posted_phase c.posts.has_round seat ≡ true) where
      -- the round
      of_round : (b : Bool) → is_marking c.posts.posted_phase ≡ b → is_phase seat.phase c.posts.posted_phase ≡ true → P (with_acknowledgement c t).0
      of_round true marking seen =
          of_parts c.threads (posts_after c t seat) (with_thread_marked c.objects (slice_get c.threads t))
          (threads_by false (flips_is ∙ ap (λ x. is_phase c.posts.posted_phase ThreadFlip && not x) seen ∙ and-false (is_phase c.posts.posted_phase ThreadFlip)))
          (posts_by true opened)
          (objects_by true (answers_is true opened ∙ ap (λ x. x && is_phase seat.phase c.posts.posted_phase) marking ∙ seen))
          (cases.marks seat here opened seen marking)
      of_round false marking seen =
          of_parts c.threads (posts_after c t seat) c.objects
          (threads_by false (flips_is ∙ ap (λ x. is_phase c.posts.posted_phase ThreadFlip && not x) seen ∙ and-false (is_phase c.posts.posted_phase ThreadFlip)))
          (posts_by true opened)
          (objects_by false (answers_is true opened ∙ ap (λ x. x && is_phase seat.phase c.posts.posted_phase) marking))
          (cases.answers seat here opened seen marking)

      -- the phase
      unmarked : is_phase seat.phase c.posts.posted_phase ≡ false → objects_after c t ≡ c.objects
      unmarked late = objects_by false (answers_is true opened ∙ ap (λ x. is_marking c.posts.posted_phase && x) late ∙ and-false (is_marking c.posts.posted_phase))

      of_phase : (b : Bool) → is_phase c.posts.posted_phase ThreadFlip ≡ b → is_phase seat.phase c.posts.posted_phase ≡ false → P (with_acknowledgement c t).0
      of_phase true flip late =
          of_parts (with_flipped c.objects c.threads t (slice_get c.threads t)) (posts_after c t seat) c.objects
          (threads_by true (flips_is ∙ ap (λ x. x && not (is_phase seat.phase c.posts.posted_phase)) flip ∙ ap not late))
          (posts_by true opened)
          (unmarked late)
          (cases.flips seat here opened late flip)
      of_phase false flip late =
          of_parts c.threads (posts_after c t seat) c.objects
          (threads_by false (flips_is ∙ ap (λ x. x && not (is_phase seat.phase c.posts.posted_phase)) flip))
          (posts_by true opened)
          (unmarked late)
          (cases.continues seat here opened late flip)

      by_phase : (b : Bool) → is_phase seat.phase c.posts.posted_phase ≡ b → P (with_acknowledgement c t).0
      by_phase true seen = of_round (is_marking c.posts.posted_phase) refl seen
      by_phase false late = of_phase (is_phase c.posts.posted_phase ThreadFlip) refl late

    by_open : (b : Bool) → is_open_to c.posts.posted_phase c.posts.has_round seat ≡ b → P (with_acknowledgement c t).0
    by_open true opened = by_phase opened (is_phase seat.phase c.posts.posted_phase) refl
    by_open false shut = closed_to shut

  by_seat : (o : Option Seat) → seat_of c.posts t ≡ o → P (with_acknowledgement c t).0
  by_seat None none = seatless none
  by_seat (Some seat) here = by_open seat here (is_open_to c.posts.posted_phase c.posts.has_round seat) refl

  -- what is so in each case is so after an acknowledgement
  pub after_acknowledgement : P (with_acknowledgement c t).0
  after_acknowledgement = by_seat (seat_of c.posts t) refl

-- no acknowledgement posts a phase
pub acknowledged_posted : (c : MachineState) (t : ℕ) → (with_acknowledgement c t).0.posts.posted_phase ≡ c.posts.posted_phase
acknowledged_posted c t = after_acknowledgement c t (λ (x : MachineState). x.posts.posted_phase ≡ c.posts.posted_phase) (record {
  nothing = refl;
  marks = λ seat here opened seen marking. refl;
  answers = λ seat here opened seen other. refl;
  continues = λ seat here opened late later. refl;
  flips = λ seat here opened late flip. refl;
})
