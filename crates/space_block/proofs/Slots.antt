-- Consecutive word slots: one is taken out of the sequence, put back or read, and room for words is a sequence of slots.
use Prim.Native.Nat.{ℕ, zero, suc, ◌+◌, ◌*◌, ◌<◌, ◌≤◌}
use native.Mathlib.Omega.{arith}
use mathlib.Core.Path.{◌≡◌, refl, sym, ap, ◌∙◌}
use mathlib.Core.List.{List, [], ◌∷◌, ◌++◌}
use lib.ListN.{length, take, drop, set, get_or, replicate, take-append-drop, length-take}
use lib.Seq.{drop-cons, set_split}
use seplogic.Ra.Ura.{Ura}
use base.Fraction.{full_share}
use base.Fml.{Fml, Lft, ftrue, fsep, froom}
use base.Logic.{ent, sep, via, snd∗, id⊢}
use mir.Syntax.{w64, ty_int, ty_array}
use mir.Val.{vint}
use types.Logic.{Logic, sem}
use types.Kit.{‵, ◌⊛◌, ◌$◌, ◌∵◌, !, qed, by, move, keep, drop as skip, use1, use2, split, frame, fsplit, fjoin, rewrite, done}
use denote.Plain.{uint_out}
use denote.Steps.{nothing}
use Rattle.std.specs.Prelude.{Option, Some, None}
use Rattle.space_block.specs.Memory.{slot, slots, lent_word, lent_words}

module _ {M : Type 1} {𝓤 : Ura M} (𝓛 : Logic 𝓤) (b : ℕ) where
  open 𝓛 use {H}

  abbrev Row : ℕ → List (Option ℕ) → Fml
  Row = slots b

  cut : (xs ys : List (Option ℕ)) (o at : ℕ) → at ≡ length xs * 8 + o → ent 𝓤 (sem 𝓛 (Row o (xs ++ ys))) (sep 𝓤 (sem 𝓛 (Row o xs)) (sem 𝓛 (Row at ys)))
  cut [] ys o at e = qed 𝓛 (‵ (Row o ys) ∷ []) ∵ rewrite ! 0 (λ (k : ℕ). ‵ (Row k ys)) {x = at} (omega (arith, e)) refl $ nothing ! $ done !
  cut (x ∷ xs) ys o at e = qed 𝓛 (‵ (Row o (x ∷ xs ++ ys)) ∷ []) ∵ fsplit ! $ move ! (1 ∷ []) $
      use1 𝓛 (‵ (Row (o + 8) xs) ⊛ ‵ (Row at ys)) (cut xs ys (o + 8) at (omega (arith, e))) $ split ! $ move ! (2 ∷ 0 ∷ []) $ fjoin ! $ done !

  glue : (xs ys : List (Option ℕ)) (o at : ℕ) → at ≡ length xs * 8 + o → ent 𝓤 (sep 𝓤 (sem 𝓛 (Row o xs)) (sem 𝓛 (Row at ys))) (sem 𝓛 (Row o (xs ++ ys)))
  glue [] ys o at e = qed 𝓛 (‵ ftrue ∷ ‵ (Row at ys) ∷ []) ∵ skip ! $ rewrite ! 0 (λ (k : ℕ). ‵ (Row k ys)) {x = o} (omega (arith, e)) refl $ done !
  glue (x ∷ xs) ys o at e = qed 𝓛 (‵ (Row o (x ∷ xs)) ∷ ‵ (Row at ys) ∷ []) ∵ fsplit ! $ move ! (1 ∷ 2 ∷ []) $
      use2 𝓛 (‵ (Row (o + 8) (xs ++ ys))) (glue xs ys (o + 8) at (omega (arith, e))) $ move ! (1 ∷ 0 ∷ []) $ fjoin ! $ done !

  module _ (o : ℕ) (cs : List (Option ℕ)) (i : ℕ) where
    -- the slots except for the i-th
    abbrev pub Besides : Fml
    Besides = fsep (Row o (take i cs)) (Row (i * 8 + o + 8) (drop (suc i) cs))

    before : i ≤ length cs → i * 8 + o ≡ length (take i cs) * 8 + o
    before le = let long : i ≡ length (take i cs) = omega (arith, length-take i cs) in ap (λ k. k * 8 + o) long

    pub slot_out : i < length cs → ent 𝓤 (sem 𝓛 (Row o cs)) (sep 𝓤 (sem 𝓛 (slot b (i * 8 + o) (get_or cs i None))) (sem 𝓛 Besides))
    slot_out lt = qed 𝓛 (‵ (Row o cs) ∷ []) ∵
        rewrite ! 0 (λ (l : List (Option ℕ)). ‵ (Row o l)) (sym (take-append-drop i cs) ∙ ap (λ l. take i cs ++ l) (drop-cons cs i None lt)) refl $
        use1 𝓛 (‵ (Row o (take i cs)) ⊛ ‵ (Row (i * 8 + o) (get_or cs i None ∷ drop (suc i) cs))) (cut (take i cs) (get_or cs i None ∷ drop (suc i) cs) o (i * 8 + o) (before (omega arith))) $
        split ! $ move ! (1 ∷ []) $ fsplit ! $ move ! (2 ∷ 1 ∷ []) $ fjoin ! $ move ! (1 ∷ []) $ done !

    pub slot_in : i < length cs → (c : Option ℕ) → ent 𝓤 (sep 𝓤 (sem 𝓛 (slot b (i * 8 + o) c)) (sem 𝓛 Besides)) (sem 𝓛 (Row o (set cs i c)))
    slot_in lt c = qed 𝓛 (‵ (slot b (i * 8 + o) c) ∷ ‵ Besides ∷ []) ∵ move ! (1 ∷ []) $ fsplit ! $ move ! (2 ∷ 1 ∷ []) $ fjoin ! $ move ! (1 ∷ 0 ∷ []) $
        use2 𝓛 (‵ (Row o (take i cs ++ c ∷ drop (suc i) cs))) (glue (take i cs) (c ∷ drop (suc i) cs) o (i * 8 + o) (before (omega arith))) $
        rewrite ! 0 (λ (l : List (Option ℕ)). ‵ (Row o l)) (sym (set_split cs i c lt)) refl $ done !

  -- a slot is room for a word, whatever it holds
  pub slot_room : (o : ℕ) (c : Option ℕ) → ent 𝓤 (sem 𝓛 (slot b o c)) (H.room (ty_int w64) b o)
  slot_room o (Some w) = via 𝓤 (H.at full_share (ty_int w64) b o (vint w64 w)) (uint_out 𝓛 full_share w64 w b o) (𝓛.laws.at_room (ty_int w64) b o (vint w64 w))
  slot_room o None = id⊢ 𝓤 _

  pub of_room : (n o : ℕ) → ent 𝓤 (H.room (ty_array (ty_int w64) n) b o) (sem 𝓛 (Row o (replicate n None)))
  of_room zero o = qed 𝓛 (‵ (froom (ty_array (ty_int w64) 0) b o) ∷ []) ∵ keep ! [] $ done !
  of_room (suc n) o = qed 𝓛 (‵ (froom (ty_array (ty_int w64) (suc n)) b o) ∷ []) ∵
      use1 𝓛 (‵ (froom (ty_int w64) b o) ⊛ ‵ (froom (ty_array (ty_int w64) n) b (o + 8))) (𝓛.laws.room_uncons (ty_int w64) n b o) $ split ! $
      frame ! $ by ! (of_room n (o + 8))

  pub to_room : (cs : List (Option ℕ)) (o : ℕ) → ent 𝓤 (sem 𝓛 (Row o cs)) (H.room (ty_array (ty_int w64) (length cs)) b o)
  to_room [] o = 𝓛.laws.room_nil (ty_int w64) b o
  to_room (c ∷ cs) o = qed 𝓛 (‵ (Row o (c ∷ cs)) ∷ []) ∵ fsplit ! $
      use1 𝓛 (‵ (froom (ty_int w64) b o)) (slot_room o c) $ move ! (1 ∷ []) $
      use1 𝓛 (‵ (froom (ty_array (ty_int w64) (length cs)) b (o + 8))) (to_room cs (o + 8)) $ move ! (1 ∷ []) $ by ! (𝓛.laws.room_cons (ty_int w64) (length cs) b o)

  module _ (κ : Lft) where
    abbrev Seen : ℕ → List (Option ℕ) → Fml
    Seen o cs = lent_words b o cs κ

    pub slot_seen : (o at : ℕ) (cs : List (Option ℕ)) (i : ℕ) → i < length cs → at ≡ i * 8 + o → ent 𝓤 (sem 𝓛 (Seen o cs)) (sem 𝓛 (lent_word b at (get_or cs i None) κ))
    slot_seen o at [] i lt e = absurd (omega arith)
    slot_seen o at (c ∷ cs) zero lt e = qed 𝓛 (‵ (Seen o (c ∷ cs)) ∷ []) ∵ fsplit ! $ keep ! (0 ∷ []) $ rewrite ! 0 (λ (k : ℕ). ‵ (lent_word b k c κ)) {x = at} (omega (arith, e)) refl $ done !
    slot_seen o at (c ∷ cs) (suc i) lt e =
        via 𝓤 (sem 𝓛 (Seen (o + 8) cs)) (snd∗ 𝓤 (sem 𝓛 (lent_word b o c κ)) (sem 𝓛 (Seen (o + 8) cs))) (slot_seen (o + 8) at cs i (omega arith) (omega (arith, e)))

pub written_inside : (cs : List (Option ℕ)) (i w : ℕ) → get_or cs i None ≡ Some w → i < length cs
written_inside [] i w e = cc
written_inside (c ∷ cs) zero w e = omega arith
written_inside (c ∷ cs) (suc i) w e = omega (arith, written_inside cs i w e)
