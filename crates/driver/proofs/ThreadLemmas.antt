-- The lines of threads, one after another.
use Rattle.std.proofs.Common.{◌≡◌, ◌+◌, ◌<◌, ℕ, List, ◌∷◌, [], ◌++◌, length, take, drop, get_or, Option, arith, sym, ◌∙◌, ap, zero, suc, append_assoc}
use Rattle.driver.proofs.Names.{append-nil, End, line_of, lines_from}

-- a line more
pub lines_more : (thread k n : ℕ) (ends : List (Option End)) (d : Option End) → thread + k ≡ n → k < length ends
    → lines_from thread (take (suc k) ends) ≡ lines_from thread (take k ends) ++ line_of n (get_or ends k d)
lines_more thread k n [] d is below = absurd (omega arith)
lines_more thread zero n (end ∷ ends) d is below =
    let same : thread ≡ n = omega (arith, is) in
    append-nil (line_of thread end) ∙ ap (λ m. line_of m end) same
lines_more thread (suc k) n (end ∷ ends) d is below =
    ap (λ lines. line_of thread end ++ lines) (lines_more (thread + 1) k n ends d (omega (arith, is)) (omega (arith, below)))
    ∙ sym (append_assoc (line_of thread end) (lines_from (thread + 1) (take k ends)) (line_of n (get_or ends k d)))

-- the lines before one, that one, and those after it
pub lines_around : (thread k n : ℕ) (ends : List (Option End)) (d : Option End) → thread + k ≡ n → k < length ends
    → lines_from thread ends ≡ lines_from thread (take k ends) ++ (line_of n (get_or ends k d) ++ lines_from (n + 1) (drop (suc k) ends))
lines_around thread k n [] d is below = absurd (omega arith)
lines_around thread zero n (end ∷ ends) d is below =
    let same : thread ≡ n = omega (arith, is) in
    ap (λ m. line_of m end ++ lines_from (m + 1) ends) same
lines_around thread (suc k) n (end ∷ ends) d is below =
    let after : List ℕ = line_of n (get_or ends k d) ++ lines_from (n + 1) (drop (suc k) ends) in
    ap (λ lines. line_of thread end ++ lines) (lines_around (thread + 1) k n ends d (omega (arith, is)) (omega (arith, below)))
    ∙ sym (append_assoc (line_of thread end) (lines_from (thread + 1) (take k ends)) after)

-- five texts, one after another
pub five_texts : (a b c d e : List ℕ) → a ++ (b ++ (c ++ (d ++ e))) ≡ a ++ b ++ c ++ d ++ e
five_texts a b c d e = sym (append_assoc (a ++ b ++ c) d e ∙ append_assoc (a ++ b) c (d ++ e) ∙ append_assoc a b (c ++ (d ++ e)))
