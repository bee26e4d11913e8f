-- Which changes keep the cursor of the collector: births, marks and stores, and the post of the next phase.
use Rattle.std.proofs.Common.{◌≡◌, ◌≢◌, ℕ, true, false, inl, inr, ◌+◌, ◌≤◌, length, refl, sym, ap, subst, ◌∙◌, arith}
use Rattle.std.specs.Prelude.{Some, None}
use Rattle.cil_model.specs.declared.phases.Phase.{Phase}
use Rattle.cil_model.specs.declared.phases.Phase.TheVariants.{Allocate, Copy}
use Rattle.object_memory.specs.declared.addresses.Addr.{Addr}
use Rattle.object_memory.specs.declared.kinds.Kind.{Kind}
use Rattle.object_memory.specs.Cells.{Cell, Cells, size, cell_in, change_in, with_last, empty_cell, next_address}
use Rattle.object_memory.specs.Spaces.{Spaces, IsOffset, give_birth}
use Rattle.object_memory.specs.declared.birth_spaces.BirthSpace.{BirthSpace}
use Rattle.object_memory.specs.declared.birth_spaces.BirthSpace.TheVariants.{InOld, Listed, InBoth, InNew}
use Rattle.object_memory.proofs.Blocks.{kept_in}
use Rattle.object_memory.proofs.Offsets.{IsOffset-last, IsOffset-start}
use Rattle.object_memory.proofs.TwoSpaces.TwoBlocks.{own, still, before_in}
use Rattle.collector.specs.Phases.{no_progress}
use Rattle.collector.specs.Soundness.{HasCursor}
use Rattle.collector.specs.declared.progress.Progress.{Progress}
use Rattle.collector.proofs.BlockWalks.ChangedBlocks.{IsOffset-change}

-- with nothing done the cursor is at the first offset, whatever is posted
pub HasCursor-begun : (posted_phase : Phase) (m : Spaces) → HasCursor posted_phase no_progress m
HasCursor-begun posted_phase m = record {
  offset = λ now. (let same : m.old.start ≡ m.old.start + 0 = omega arith in subst (IsOffset m.old) same (IsOffset-start m.old));
  attempts = λ now. omega arith;
  words = λ now some. absurd (some refl);
}

module _ (posted_phase : Phase) (p : Progress) where
  -- in any other phase it says nothing
  pub HasCursor-else : (m : Spaces) → posted_phase ≢ Allocate → posted_phase ≢ Copy → HasCursor posted_phase p m
  HasCursor-else m not_allocate not_copy = record {
    offset = λ now. elim now [ inl is ↦ absurd (not_allocate is) | inr is ↦ absurd (not_copy is) ];
    attempts = λ now. absurd (not_copy now);
    words = λ now. absurd (not_copy now);
  }

  module _ (m n : Spaces) (h : HasCursor posted_phase p m) where
    -- the old block alone matters
    pub HasCursor-same : n.old ≡ m.old → HasCursor posted_phase p n
    HasCursor-same same = record {
      offset = λ now. subst (λ (s : Cells). IsOffset s (s.start + p.cursor)) (sym same) (h.offset now);
      attempts = h.attempts;
      words = λ now some.
          subst
          (λ (s : Cells). (c : Cell) × (cell_in s (record { number = s.start + p.cursor }) ≡ Some c) × (c.other ≢ None) × (p.copied_words ≤ length c.slots))
          (sym same)
          (h.words now some);
    }

  -- one old object more
  pub HasCursor-last : (m n : Spaces) → HasCursor posted_phase p m → (c : Cell) → n.old ≡ with_last m.old c → HasCursor posted_phase p n
  HasCursor-last m n h c same = HasCursor-same (record m { old = with_last m.old c }) n more same
    where
      more : HasCursor posted_phase p (record m { old = with_last m.old c })
      more = record {
        offset = λ now. IsOffset-last m.old c (m.old.start + p.cursor) (h.offset now);
        attempts = h.attempts;
        words = λ now some. (let r = h.words now some in (r.0, kept_in m.old c (record { number = m.old.start + p.cursor }) r.0 r.1, r.2, r.3));
      }

  -- a change of an object that leaves its count of slots and its other copy
  pub HasCursor-change : (m n : Spaces) → HasCursor posted_phase p m → (f : Cell → Cell) → ((c : Cell) → length (f c).slots ≡ length c.slots) → ((c : Cell) → (f c).other ≡ c.other)
      → (a : Addr) → n.old ≡ change_in f m.old a → HasCursor posted_phase p n
  HasCursor-change m n h f count others a same = HasCursor-same (record m { old = change_in f m.old a }) n changed same
    where
      keeps : (c : Cell) → size (f c) ≡ size c
      keeps c = ap (λ l. 3 + l) (count c)

      changed : HasCursor posted_phase p (record m { old = change_in f m.old a })
      changed = record {
        offset = λ now. IsOffset-change f keeps m.old a (m.old.start + p.cursor) (h.offset now);
        attempts = h.attempts;
        words = λ now some. (
            let r = h.words now some in
            let d = before_in f keeps m.old a (record { number = m.old.start + p.cursor }) r.0 r.1 in
            elim d.2 [
              | own number equal ↦ (
                d.0,
                d.1,
                subst (λ (x : Cell). x.other ≢ None) (sym equal) (λ none. r.2 (sym (others r.0) ∙ none)),
                subst (λ (x : Cell). p.copied_words ≤ length x.slots) (sym equal) (let long = count r.0 in omega (arith, long, r.3)),
              )
              | still ne equal ↦ (
                d.0,
                d.1,
                subst (λ (x : Cell). x.other ≢ None) (sym equal) r.2,
                subst (λ (x : Cell). p.copied_words ≤ length x.slots) (sym equal) r.3,
              )
            ]);
      }

  -- ---- what threads do

  module _ (m : Spaces) (h : HasCursor posted_phase p m) where
    -- a birth
    pub HasCursor-born : (q : BirthSpace) (k : Kind) (n : ℕ) → HasCursor posted_phase p (give_birth q m k n)
    HasCursor-born InOld k n = HasCursor-last m (give_birth InOld m k n) h (empty_cell k n false None) refl
    HasCursor-born Listed k n = HasCursor-last m (give_birth Listed m k n) h (empty_cell k n true None) refl
    HasCursor-born InBoth k n = HasCursor-last m (give_birth InBoth m k n) h (empty_cell k n true (Some (next_address m.new))) refl
    HasCursor-born InNew k n = HasCursor-same m (give_birth InNew m k n) h refl
