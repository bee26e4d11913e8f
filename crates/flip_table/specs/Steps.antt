-- The kinds of step: what each reports to its holder, and what the holder knows after it (this profile).
use Rattle.std.specs.Prelude.{true, false, Some, None, ◌≡◌, ◌≢◌, ℕ, ◌+◌, ◌<◌, ◌≤◌, [], ◌∷◌, ◌++◌, length, slice_index, slice_set}
use Rattle.atomic_table.specs.Table.{Me, Step}
use Rattle.flip_table.specs.Rule.{forward, initial_writer}
use Rattle.epoch_words.specs.Tokens.{IsPostedOrOneLess}
use Rattle.flip_table.specs.declared.slot_table.CopierView.{CopierView}
use Rattle.flip_table.specs.declared.slot_table.PlanView.{PlanView}
use Rattle.flip_table.specs.declared.slot_table.View.{View}
use Rattle.flip_table.specs.declared.slot_table.View.TheVariants.{OfWriter, OfCopier}
use Rattle.flip_table.specs.declared.slot_table.WriterView.{WriterView}

abbrev pub Holder : Type 0
Holder = Me (Unit {0}) View

abbrev pub WordStep : Type 0
WordStep = Step (Unit {0})

abbrev no_plan : PlanView
no_plan = record { owners = []; seats = 0; limit = 0 }

-- what a writer knows (nothing is required of the copier's view)
abbrev pub writer_part : View → WriterView
writer_part (OfWriter q) = q
writer_part (OfCopier p) = record { plan = no_plan; index = 0; taken_up = 0; polled = 0; polls = 0; loads = 0; loaded_word = 0; loaded = 0; written = []; wrote = []; pending = None }

-- what the copier knows (nothing is required of a writer's view)
abbrev pub copier_part : View → CopierView
copier_part (OfWriter q) = record {
  plan = no_plan;
  stage = 0;
  dealt = 0;
  found = [];
  looks = 0;
  looked_at = 0;
  copying = None;
  value = 0;
  stored = false;
  checks = 0;
  checked_slot = 0;
  first_load = 0;
  second_load = 0;
  copied = [];
  retired = [];
}
copier_part (OfCopier p) = p

-- the copier's view once it gave out the next writer, and that writer's view
abbrev pub dealing_copier : View → View
dealing_copier (OfWriter q) = OfWriter q
dealing_copier (OfCopier p) = OfCopier (record p { dealt = p.dealt + 1 })

abbrev pub dealt_writer : View → View
dealt_writer (OfWriter q) = OfWriter q
dealt_writer (OfCopier p) = OfWriter (initial_writer p.plan p.dealt)

-- the writer once a load of this word of a slot gave it the value x
abbrev pub loading_writer : WriterView → ℕ → ℕ → WriterView
loading_writer q word x = record q { loads = q.loads + 1; loaded_word = word; loaded = x }

-- the copier once it looked at seat j and found it to have taken up the stage x
abbrev pub looking_copier : CopierView → ℕ → ℕ → CopierView
looking_copier p j x = record p { found = slice_set p.found j x; looks = p.looks + 1; looked_at = j }

-- the copier once it checked slot k, where its second load gave x
abbrev pub checking_copier : CopierView → ℕ → ℕ → CopierView
checking_copier p k x = record p { copying = None; checks = p.checks + 1; checked_slot = k; first_load = p.value; second_load = x }

-- A load of a first copy, at stage 0. The seat has found a value below the limit, and in a slot of its own what it last wrote.
abbrev pub LoadsFirst : WordStep → Holder → ℕ → Holder → Type 0
LoadsFirst step before x after = let q = writer_part before.0 in
    (after ≡ (OfWriter (loading_writer q step.word x), [])) × (x < q.plan.limit) × (slice_index q.plan.owners step.word ≡ q.index → x ≡ slice_index q.written step.word)

-- A load of a second copy, from stage 1 on. The seat has found the forward of such a value.
abbrev pub LoadsSecond : WordStep → Holder → ℕ → Holder → Type 0
LoadsSecond step before y after = let q = writer_part before.0 in
    ((x : ℕ) × (after ≡ (OfWriter (loading_writer q step.word x), [])) × (x < q.plan.limit) × (y ≡ forward x))
    × ((k : ℕ) → step.word ≡ length q.plan.owners + k → slice_index q.plan.owners k ≡ q.index → y ≡ forward (slice_index q.written k))

-- A store to a first copy. The seat has written x, and has yet to store it in the second copy.
abbrev pub StoresFirst : WordStep → Holder → ℕ → Holder → Type 0
StoresFirst step before x after = let q = writer_part before.0 in
    after ≡ (OfWriter (record q { written = slice_set q.written step.word x; wrote = q.wrote ++ (step.word, x) ∷ []; pending = Some step.word }), [])

-- A store to the second copy of the slot whose first copy was stored just before.
abbrev pub StoresSecond : WordStep → Holder → ℕ → Holder → Type 0
StoresSecond step before y after = let q = writer_part before.0 in after ≡ (OfWriter (record q { pending = None }), [])

-- A store to a second copy alone, at stage 2.
abbrev pub StoresAlone : WordStep → Holder → ℕ → Holder → Type 0
StoresAlone step before y after = let q = writer_part before.0 in (k x : ℕ) → step.word ≡ length q.plan.owners + k → y ≡ forward x
    → after ≡ (OfWriter (record q { written = slice_set q.written k x; wrote = q.wrote ++ (k, x) ∷ []; pending = None }), [])

-- A load of the stage by a seat, which is a poll.
abbrev pub PollsStage : WordStep → Holder → ℕ → Holder → Type 0
PollsStage step before x after = let q = writer_part before.0 in
    (after ≡ (OfWriter (record q { polled = x; polls = q.polls + 1 }), [])) × IsPostedOrOneLess q.taken_up x × (q.polled ≤ x) × (x ≤ 2)

-- A store of the stage that a seat takes up.
abbrev pub TakesUp : WordStep → Holder → ℕ → Holder → Type 0
TakesUp step before x after = let q = writer_part before.0 in after ≡ (OfWriter (record q { taken_up = q.polled }), [])

-- The copier's load of a first copy, at stage 0.
abbrev pub LoadsToCopy : WordStep → Holder → ℕ → Holder → Type 0
LoadsToCopy step before x after = let p = copier_part before.0 in
    (after ≡ (OfCopier (record p { copying = Some step.word; value = x; stored = false }), [])) × (x < p.plan.limit)

-- The copier's store to a second copy. The slot stops counting as copied.
abbrev pub StoresCopy : WordStep → Holder → ℕ → Holder → Type 0
StoresCopy step before y after = let p = copier_part before.0 in (k : ℕ) → p.copying ≡ Some k
    → after ≡ (OfCopier (record p { stored = true; copied = slice_set p.copied k false }), [])

-- The copier's second load of a first copy, which is a check. The slot counts as copied where the value is the same.
abbrev pub LoadsToCheck : WordStep → Holder → ℕ → Holder → Type 0
LoadsToCheck step before x after = let p = copier_part before.0 in
    (x ≡ p.value → after ≡ (OfCopier (record (checking_copier p step.word x) { copied = slice_set p.copied step.word true }), []))
    × (x ≢ p.value → after ≡ (OfCopier (checking_copier p step.word x), []))

-- The copier's load of the stage that a seat has taken up, which is a look.
abbrev pub FindsStage : WordStep → Holder → ℕ → Holder → Type 0
FindsStage step before x after = let p = copier_part before.0 in (j : ℕ) → step.word ≡ length p.plan.owners + length p.plan.owners + j
    → (after ≡ (OfCopier (looking_copier p j x), [])) × IsPostedOrOneLess x p.stage × (slice_index p.found j ≤ x)

-- The copier's store of the next stage.
abbrev pub PostsStage : WordStep → Holder → ℕ → Holder → Type 0
PostsStage step before x after = let p = copier_part before.0 in after ≡ (OfCopier (record p { stage = p.stage + 1 }), [])

-- The copier's store of the mark over a first copy.
abbrev pub Retires : WordStep → Holder → ℕ → Holder → Type 0
Retires step before x after = let p = copier_part before.0 in after ≡ (OfCopier (record p { retired = slice_set p.retired step.word true }), [])
