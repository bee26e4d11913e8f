-- The lines of what differs, one after another.
use Rattle.std.proofs.Common.{◌≡◌, List, ℕ, [], ◌++◌, append_assoc, append-nil, ap, sym, ◌∙◌}

-- three texts, each of which is another one
pub three_texts : {a b c x y z : List ℕ} → a ≡ x → b ≡ y → c ≡ z → a ++ (b ++ (c ++ [])) ≡ x ++ y ++ z
three_texts {a = a} {b = b} {c = c} {x = x} {y = y} e f g =
    ap (λ (t : List ℕ). a ++ (b ++ t)) (append-nil c) ∙ sym (append_assoc a b c)
    ∙ ap (λ (t : List ℕ). t ++ b ++ c) e ∙ ap (λ (t : List ℕ). x ++ t ++ c) f ∙ ap (λ (t : List ℕ). x ++ y ++ t) g
