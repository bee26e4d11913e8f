-- White space, comments and names, tested.
use Rattle.std.proofs.Common.{◌≡◌, true, false, [], ◌∷◌, Some, None, refl, codes}
use Rattle.cil_model.specs.Lexemes.{skip_gap, between}
use Rattle.cil_model.specs.Words.{is_name, is_reserved}
use Rattle.definition_tests.proofs.Samples.Tables.{Answers}

-- ---- white space and comments

white_space_and_comments : Answers (skip_gap between) (
    (codes "block not closed", codes "/*/", None) ∷
    (codes "block closed", codes " /***/ // a\n b", Some (codes "b")) ∷
    (codes "line to end", codes "// a", Some []) ∷
    (codes "slash alone", codes "/a", Some (codes "/a")) ∷
    (codes "long line", codes "// aaaaaaaaaaaaaaaaaaaaaaaaaaaaaaaaaaaaaaaa aaaaaaaaaaaaaaaaaaaaaaaaaaaaaaaaaaaaaaaaaaaaaaaa\nb", Some (codes "b")) ∷
    (codes "star alone", codes "/* * / */x", Some (codes "x")) ∷
    (codes "block without end", codes "/* x", None) ∷
    (codes "carriage return continues", codes "// a\rb", Some []) ∷
    [])
white_space_and_comments = refl

names : Answers is_name (
    (codes "dotted", codes "System.Object", true) ∷
    (codes "dot at end", codes "System.", false) ∷
    (codes "reserved word", codes "ldc.i4.8", false) ∷
    (codes "constructor word", codes ".ctorx", false) ∷
    (codes "digit first", codes "foo.5", false) ∷
    (codes "underscore", codes "_a.b1", true) ∷
    (codes "almost reserved", codes "ldc.i4.m2", true) ∷
    [])
names = refl

short_word : is_reserved (codes "ldc.i4.m1") ≡ true
short_word = refl

type_word : is_reserved (codes "i4") ≡ false
type_word = refl
