-- The reserved words in buckets, each with what it is for.
use Rattle.std.specs.Prelude.{ℕ, pos, negsuc, ◌+◌, ◌/◌, ◌%◌, List, [], ◌∷◌, Option, Some, None, codes, bytes_eq, get_or, if◌then◌else◌}
use Rattle.cil_model.specs.declared.instructions.BinaryOperation.TheVariants as binary
use Rattle.cil_model.specs.declared.instructions.UnaryOperation.TheVariants as unary
use Rattle.cil_model.specs.declared.instructions.ShiftOperation.TheVariants as shift
use Rattle.cil_model.specs.declared.instructions.Comparison.TheVariants as comparison
use Rattle.cil_model.specs.declared.instructions.BranchComparison.TheVariants as branch
use Rattle.cil_model.specs.declared.instructions.BranchCondition.TheVariants as conditions
use Rattle.cil_model.specs.declared.instructions.ElementKind.TheVariants as kinds
use Rattle.ilasm_tokens.specs.declared.words.WordUse.{WordUse}
use Rattle.ilasm_tokens.specs.declared.words.WordUse.TheVariants.{Grammar as OfGrammar, Instruction as OfInstruction}
use Rattle.ilasm_tokens.specs.declared.words.Form.TheVariants as forms
use Rattle.ilasm_tokens.specs.declared.words.Bare.TheVariants as bares
use Rattle.ilasm_tokens.specs.declared.words.WithInteger.TheVariants as with_integers
use Rattle.ilasm_tokens.specs.declared.words.FieldAccess.TheVariants as accesses
use Rattle.ilasm_tokens.specs.declared.words.WithType.TheVariants as with_types

abbrev pub Entry : Type 0
Entry = List ℕ × WordUse

-- the bucket of a word has the number that its bytes sum up to, modulo 64
abbrev pub bucket_from : ℕ → List ℕ → ℕ
bucket_from sum [] = sum
bucket_from sum (c ∷ cs) = bucket_from ((sum + c) % 64) cs

-- the buckets, in groups of eight
abbrev pub groups : List (List (List Entry))
groups =
    (([]) ∷
    ((codes "conv.i4", OfInstruction (forms.Bare bares.ConvertInt32)) ∷ (codes "castclass", OfInstruction (forms.Type with_types.Cast)) ∷ []) ∷
    ((codes "specialname", OfGrammar) ∷ (codes "ldc.i8", OfInstruction (forms.Integer with_integers.LoadInt64)) ∷ (codes "blt", OfInstruction (forms.Branch (conditions.Compare branch.Less))) ∷ (codes "ldelem.i8", OfInstruction (forms.Bare (bares.LoadElement kinds.Int64))) ∷ []) ∷
    ((codes "sub.ovf", OfInstruction (forms.Bare (bares.Binary binary.SubtractOverflow))) ∷ (codes "div", OfInstruction (forms.Bare (bares.Binary binary.Divide))) ∷ (codes "clt", OfInstruction (forms.Bare (bares.Compare comparison.Less))) ∷ (codes "stloc.0", OfInstruction (forms.Bare (bares.SetLocal (pos 0)))) ∷ []) ∷
    ((codes ".class", OfGrammar) ∷ (codes "rem", OfInstruction (forms.Bare (bares.Binary binary.Remainder))) ∷ (codes "stloc.1", OfInstruction (forms.Bare (bares.SetLocal (pos 1)))) ∷ []) ∷
    ((codes "conv.i8", OfInstruction (forms.Bare bares.ConvertInt64)) ∷ (codes "newobj", OfInstruction forms.NewObject) ∷ (codes "stloc.2", OfInstruction (forms.Bare (bares.SetLocal (pos 2)))) ∷ []) ∷
    ((codes "bne.un", OfInstruction (forms.Branch (conditions.Compare branch.NotEqual))) ∷ (codes "ldfld", OfInstruction (forms.Field accesses.Load)) ∷ (codes "stloc.3", OfInstruction (forms.Bare (bares.SetLocal (pos 3)))) ∷ []) ∷
    ((codes "virtual", OfGrammar) ∷ (codes "mul.ovf", OfInstruction (forms.Bare (bares.Binary binary.MultiplyOverflow))) ∷ (codes "shl", OfInstruction (forms.Bare (bares.Shift shift.Left))) ∷ []) ∷ []) ∷
    (((codes "static", OfGrammar) ∷ []) ∷
    ((codes "dup", OfInstruction (forms.Bare bares.Duplicate)) ∷ []) ∷
    ((codes ".entrypoint", OfGrammar) ∷ (codes ".maxstack", OfGrammar) ∷ (codes "ldarg", OfInstruction (forms.Integer with_integers.LoadArgument)) ∷ (codes "sub", OfInstruction (forms.Bare (bares.Binary binary.Subtract))) ∷ (codes "ldc.i4.m1", OfInstruction (forms.Bare (bares.Int32 (negsuc 0)))) ∷ []) ∷
    ((codes "ldnull", OfInstruction (forms.Bare bares.LoadNull)) ∷ (codes "ret", OfInstruction (forms.Bare bares.Return)) ∷ []) ∷
    ((codes "newslot", OfGrammar) ∷ []) ∷
    ((codes "managed", OfGrammar) ∷ (codes "nop", OfInstruction (forms.Bare bares.NoOperation)) ∷ (codes "shr", OfInstruction (forms.Bare (bares.Shift shift.Right))) ∷ []) ∷
    ((codes ".assembly", OfGrammar) ∷ (codes "ldloc", OfInstruction (forms.Integer with_integers.LoadLocal)) ∷ (codes "mul", OfInstruction (forms.Bare (bares.Binary binary.Multiply))) ∷ []) ∷
    ((codes "pop", OfInstruction (forms.Bare bares.Pop)) ∷ (codes "newarr", OfInstruction (forms.Type with_types.NewArray)) ∷ (codes "ldlen", OfInstruction (forms.Bare bares.LoadLength)) ∷ []) ∷ []) ∷
    (((codes "stsfld", OfInstruction (forms.Field accesses.StoreStatic)) ∷ []) ∷
    ((codes "not", OfInstruction (forms.Bare (bares.Unary unary.Complement))) ∷ []) ∷
    ((codes "switch", OfInstruction forms.Switch) ∷ []) ∷
    ([]) ∷
    ((codes "abstract", OfGrammar) ∷ (codes "br", OfInstruction (forms.Branch conditions.Always)) ∷ (codes "brtrue", OfInstruction (forms.Branch conditions.IfTrue)) ∷ []) ∷
    ((codes "instance", OfGrammar) ∷ (codes "stelem.i4", OfInstruction (forms.Bare (bares.StoreElement kinds.Int32))) ∷ []) ∷
    ((codes "extern", OfGrammar) ∷ (codes "class", OfGrammar) ∷ []) ∷
    ((codes "string", OfGrammar) ∷ []) ∷ []) ∷
    (([]) ∷
    ((codes "xor", OfInstruction (forms.Bare (bares.Binary binary.ExclusiveOr))) ∷ (codes "stelem.i8", OfInstruction (forms.Bare (bares.StoreElement kinds.Int64))) ∷ []) ∷
    ((codes "isinst", OfInstruction (forms.Type with_types.IsInstance)) ∷ []) ∷
    ([]) ∷
    ((codes "call", OfInstruction forms.Call) ∷ (codes "ldc.i4.0", OfInstruction (forms.Bare (bares.Int32 (pos 0)))) ∷ []) ∷
    ((codes "stfld", OfInstruction (forms.Field accesses.Store)) ∷ (codes "ldc.i4.1", OfInstruction (forms.Bare (bares.Int32 (pos 1)))) ∷ []) ∷
    ((codes "shr.un", OfInstruction (forms.Bare (bares.Shift shift.RightUnsigned))) ∷ (codes "ldelem.ref", OfInstruction (forms.Bare (bares.LoadElement kinds.Reference))) ∷ (codes "ldc.i4.2", OfInstruction (forms.Bare (bares.Int32 (pos 2)))) ∷ []) ∷
    ((codes "brfalse", OfInstruction (forms.Branch conditions.IfFalse)) ∷ (codes "ldc.i4.3", OfInstruction (forms.Bare (bares.Int32 (pos 3)))) ∷ []) ∷ []) ∷
    (((codes "ldc.i4.4", OfInstruction (forms.Bare (bares.Int32 (pos 4)))) ∷ []) ∷
    ((codes "starg", OfInstruction (forms.Integer with_integers.StoreArgument)) ∷ (codes "or", OfInstruction (forms.Bare (bares.Binary binary.Or))) ∷ (codes "callvirt", OfInstruction forms.CallVirtual) ∷ (codes "ldc.i4.5", OfInstruction (forms.Bare (bares.Int32 (pos 5)))) ∷ []) ∷
    ((codes "add.ovf", OfInstruction (forms.Bare (bares.Binary binary.AddOverflow))) ∷ (codes "ldc.i4.6", OfInstruction (forms.Bare (bares.Int32 (pos 6)))) ∷ []) ∷
    ((codes "ldc.i4.7", OfInstruction (forms.Bare (bares.Int32 (pos 7)))) ∷ []) ∷
    ((codes "ldc.i4.8", OfInstruction (forms.Bare (bares.Int32 (pos 8)))) ∷ []) ∷
    ((codes "stloc", OfInstruction (forms.Integer with_integers.StoreLocal)) ∷ []) ∷
    ((codes ".ctor", OfGrammar) ∷ []) ∷
    ([]) ∷ []) ∷
    (((codes "rtspecialname", OfGrammar) ∷ (codes "ldarg.0", OfInstruction (forms.Bare (bares.Argument (pos 0)))) ∷ []) ∷
    ((codes "ldstr", OfInstruction forms.Quoted) ∷ (codes "add", OfInstruction (forms.Bare (bares.Binary binary.Add))) ∷ (codes "ldarg.1", OfInstruction (forms.Bare (bares.Argument (pos 1)))) ∷ []) ∷
    ((codes "ldarg.2", OfInstruction (forms.Bare (bares.Argument (pos 2)))) ∷ []) ∷
    ((codes "ansi", OfGrammar) ∷ (codes "ldarg.3", OfInstruction (forms.Bare (bares.Argument (pos 3)))) ∷ []) ∷
    ((codes ".locals", OfGrammar) ∷ (codes "ldloc.0", OfInstruction (forms.Bare (bares.Local (pos 0)))) ∷ []) ∷
    ((codes "ldloc.1", OfInstruction (forms.Bare (bares.Local (pos 1)))) ∷ []) ∷
    ((codes "bge", OfInstruction (forms.Branch (conditions.Compare branch.GreaterOrEqual))) ∷ (codes "ldloc.2", OfInstruction (forms.Bare (bares.Local (pos 2)))) ∷ []) ∷
    ((codes ".method", OfGrammar) ∷ (codes "ldloc.3", OfInstruction (forms.Bare (bares.Local (pos 3)))) ∷ []) ∷ []) ∷
    (((codes "int32", OfGrammar) ∷ []) ∷
    ((codes "interface", OfGrammar) ∷ []) ∷
    ((codes "void", OfGrammar) ∷ (codes ".field", OfGrammar) ∷ []) ∷
    ((codes "and", OfInstruction (forms.Bare (bares.Binary binary.And))) ∷ (codes "ble", OfInstruction (forms.Branch (conditions.Compare branch.LessOrEqual))) ∷ []) ∷
    ((codes "init", OfGrammar) ∷ []) ∷
    ((codes "int64", OfGrammar) ∷ (codes "stelem.ref", OfInstruction (forms.Bare (bares.StoreElement kinds.Reference))) ∷ []) ∷
    ([]) ∷
    ((codes "object", OfGrammar) ∷ []) ∷ []) ∷
    (((codes "hidebysig", OfGrammar) ∷ (codes "cil", OfGrammar) ∷ (codes "beq", OfInstruction (forms.Branch (conditions.Compare branch.Equal))) ∷ []) ∷
    ((codes "auto", OfGrammar) ∷ (codes "ceq", OfInstruction (forms.Bare (bares.Compare comparison.Equal))) ∷ (codes "ldsfld", OfInstruction (forms.Field accesses.LoadStatic)) ∷ []) ∷
    ((codes "neg", OfInstruction (forms.Bare (bares.Unary unary.Negate))) ∷ []) ∷
    ((codes "extends", OfGrammar) ∷ []) ∷
    ([]) ∷
    ((codes "bgt", OfInstruction (forms.Branch (conditions.Compare branch.Greater))) ∷ []) ∷
    ((codes "implements", OfGrammar) ∷ (codes "ldc.i4", OfInstruction forms.Int32) ∷ (codes "cgt", OfInstruction (forms.Bare (bares.Compare comparison.Greater))) ∷ (codes "ldelem.i4", OfInstruction (forms.Bare (bares.LoadElement kinds.Int32))) ∷ []) ∷
    ((codes "public", OfGrammar) ∷ []) ∷ []) ∷ []

abbrev pub look_up : List Entry → List ℕ → Option WordUse
look_up [] w = None
look_up (e ∷ es) w = if bytes_eq e.0 w then Some e.1 else look_up es w

-- what a word is for, if it is reserved
unfoldable pub use_of : List ℕ → Option WordUse
use_of w = look_up (get_or (get_or groups (bucket_from 0 w / 8) []) (bucket_from 0 w % 8) []) w
