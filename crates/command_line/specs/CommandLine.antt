-- The command line of `cilvm`: the arguments that clap is given, and the order that its matches
-- hold (this profile).
use Rattle.std.specs.Prelude.{◌≡◌, ◌≢◌, ◌⊎◌, ◌≤◌, ℕ, Bool, pos, true, false, List, [], ◌∷◌, codes}
use Rattle.std.specs.Prelude.{Option, Some, None, Result, Ok, Err, option_map, option_and_then}
use Rattle.std.specs.Prelude.{if◌then◌else◌, IfSome, ⊤, nat_eq, slice_get}
use Rattle.std.specs.List.{ends_with}
use Rattle.std.specs.Option.{option_map_or}
use Rattle.std.specs.Str.{bytes_eq}
use Rattle.std.specs.Str.Parse.{digits_value, without_leading_plus}
use Rattle.clap.specs.ValueTests.{is_unsigned_in}
use Rattle.clap.specs.Words.{App, IsAmong, Kinds, Row, Rule, Text, app_of, fault_of, first_of, matches_of, new_app}
use Rattle.clap.specs.Words.{new_rule, rule_of, subcommand_of, with_rule, with_subcommand}
use Rattle.clap.specs.declared.builder.action.ArgAction.TheVariants.{SetTrue}
use Rattle.clap.specs.declared.builder.arg.Arg.{Arg}
use Rattle.clap.specs.declared.builder.command.Command.{Command}
use Rattle.clap.specs.declared.builder.command.Command.TheViews.{out-Command}
use Rattle.clap.specs.declared.builder.value_parser.ValueParser.TheVariants as vp
use Rattle.clap.specs.declared.error.kind.ErrorKind.{ErrorKind}
use Rattle.clap.specs.declared.error.kind.ErrorKind.TheVariants.{DisplayHelp, DisplayVersion, OutOfMemory}
use Rattle.cil_model.specs.Ranges.{are_numbers_in_range}
use Rattle.cil_model.specs.declared.limits.Limits.{Limits}
use Rattle.cil_model.specs.declared.limits.TheConstants.{LEAST_WORDS, MOST_WORDS}
use Rattle.cil_model.specs.declared.limits.TheConstants.{MOST_BUDGET, MOST_DEPTH}
use Rattle.commands.specs.declared.given_limits.GivenLimits.{GivenLimits}
use Rattle.commands.specs.declared.order.Order.{Order}
use Rattle.commands.specs.declared.order.Order.TheVariants.{Check, Run, Trace, Picture, Explore, Flip}
use Rattle.commands.specs.declared.run.TheConstants.{LEAST_OUTPUT, MOST_OUTPUT}
use Rattle.commands.specs.declared.part.Part.{Part}
use Rattle.commands.specs.declared.run.RunKind.{RunKind}
use Rattle.commands.specs.declared.run.RunKind.TheVariants.{Schedule, Replay, Workers}
use Rattle.commands.specs.declared.part.TheConstants.{LAST_NUMBER}
use Rattle.cil_model.specs.declared.stops.StopAt.{StopAt}
use Rattle.cil_model.specs.declared.stops.StopAt.TheVariants.{Deadlock, End}
use Rattle.commands.specs.declared.extents.Extent.{Extent}
use Rattle.commands.specs.declared.extents.Goal.{Goal}
use Rattle.commands.specs.declared.extents.Goal.TheVariants.{Fault, Deadlock, Output}
use Rattle.command_line.specs.declared.line.LineFault.{LineFault}
use Rattle.command_line.specs.declared.line.LineFault.TheVariants.{Help, Version, Bad, Memory}

-- ---- the arguments

-- an argument has this rule, and belongs to one command alone
abbrev pub IsArgument : Rule → Arg → Type 0
IsArgument rule arg = (rule_of arg ≡ rule) × (arg.global ≡ false)

-- a command is this one, and all its arguments belong to it alone
abbrev pub IsCommand : App → Command → Type 0
IsCommand app command = (app_of command ≡ app) × ((out-Command command).has_globals ≡ false)

-- a value without a name, which has to be given
abbrev pub file_rule : Text → Rule
file_rule id = record (new_rule id) { required = true; value_names = 1 }

-- `--id VALUE`
abbrev pub text_rule : Text → Rule
text_rule id = record (new_rule id) { long = Some id; value_names = 1 }

-- `--id N` with `least ≤ N ≤ most`
abbrev pub number_rule : Text → ℕ → ℕ → Rule
number_rule id least most =
    record (text_rule id) { parser = Some (vp.Signed (pos least) (pos most)) }

-- `--id`
abbrev pub flag_rule : Text → Rule
flag_rule id = record (new_rule id) { long = Some id; action = Some SetTrue }

abbrev pub with_default : Text → Rule → Rule
with_default text rule = record rule { defaults = text ∷ [] }

abbrev pub required_rule : Rule → Rule
required_rule rule = record rule { required = true }

abbrev pub with_limits : App → App
with_limits a = with_rule (with_rule (with_rule (with_rule a
    (with_default (codes "65536") (number_rule (codes "words") LEAST_WORDS MOST_WORDS)))
    (number_rule (codes "max-words") LEAST_WORDS MOST_WORDS))
    (with_default (codes "100000") (number_rule (codes "budget") 1 MOST_BUDGET)))
    (with_default (codes "64") (number_rule (codes "depth") 1 MOST_DEPTH))

-- the same without defaults
abbrev pub with_given_limits : App → App
with_given_limits a = with_rule (with_rule (with_rule (with_rule a
    (number_rule (codes "words") LEAST_WORDS MOST_WORDS)) (number_rule (codes "max-words") LEAST_WORDS MOST_WORDS))
    (number_rule (codes "budget") 1 MOST_BUDGET)) (number_rule (codes "depth") 1 MOST_DEPTH)

abbrev pub with_explain : App → App
with_explain a = with_rule a (flag_rule (codes "explain"))

-- `--stats`
abbrev pub with_stats : App → App
with_stats a = with_rule a (flag_rule (codes "stats"))

-- the options of a run
abbrev pub with_run_options : App → App
with_run_options a = with_limits (with_explain a)

-- perhaps the most bytes that the program prints
abbrev pub with_output : App → App
with_output a = with_rule a (number_rule (codes "output") LEAST_OUTPUT MOST_OUTPUT)

-- the options of what a run prints
abbrev pub with_print_options : App → App
with_print_options a = with_stats (with_output a)

-- a command that takes a source
abbrev pub with_source : Text → App
with_source name = with_rule (new_app name) (file_rule (codes "file"))

-- a command that takes its schedule from a file too
abbrev pub with_files : Text → App
with_files name = with_rule (with_source name) (file_rule (codes "schedule"))

abbrev pub check_app : App
check_app = with_explain (with_source (codes "check"))

abbrev pub run_app : App
run_app = with_run_options (with_print_options (with_rule (with_source (codes "run")) (required_rule (text_rule (codes "schedule")))))

abbrev pub replay_app : App
replay_app = with_given_limits (with_explain (with_print_options (with_files (codes "replay"))))

abbrev pub trace_app : App
trace_app = with_given_limits (with_explain (with_files (codes "trace")))

-- the first event that is drawn, the first of all where none is said, and perhaps the last one
abbrev pub with_part : App → App
with_part a = with_rule (with_rule a
    (with_default (codes "1") (number_rule (codes "from") 1 LAST_NUMBER))) (number_rule (codes "to") 1 LAST_NUMBER)

abbrev pub picture_app : App
picture_app = with_given_limits (with_explain (with_part (with_files (codes "picture"))))

-- 1 to 16 workers, 1 where none is said, perhaps the file of a record, and whether a deadlock ends the run
abbrev pub threads_app : App
threads_app = with_run_options (with_print_options (with_rule (with_rule (with_rule (with_source (codes "threads"))
    (with_default (codes "1") (number_rule (codes "workers") 1 16))) (text_rule (codes "record")))
    (flag_rule (codes "stop-at-deadlock"))))

-- the maximum number of states, 100,000 by default; perhaps that of preemptions, the outcome at which it stops, and the file of a schedule
abbrev pub explore_app : App
explore_app = with_run_options (with_rule (with_rule (with_rule (with_rule (with_source (codes "explore"))
    (with_default (codes "100000") (number_rule (codes "states") 1 1000000))) (number_rule (codes "preemptions") 0 1000)) (text_rule (codes "until")))
    (text_rule (codes "save")))

-- all four numbers have to be given
abbrev pub flip_app : App
flip_app = with_rule (with_rule (with_rule (with_rule (new_app (codes "flip"))
    (required_rule (number_rule (codes "seats") 1 16))) (required_rule (number_rule (codes "objects") 1 256)))
    (required_rule (number_rule (codes "slots") 1 16))) (required_rule (number_rule (codes "rounds") 0 10000))

abbrev pub with_required_subcommand : App → App
with_required_subcommand a =
    record a { top = record a.top { subcommand_required = true; arg_required_else_help = true } }

-- `--version` and `-V`
abbrev pub with_version : App → App
with_version a = record a { top = record a.top { has_version = true } }

-- the commands that check and run a source
abbrev pub with_runs : App → App
with_runs a = with_subcommand (with_subcommand (with_subcommand (with_subcommand a check_app.top) threads_app.top) run_app.top) replay_app.top

-- those that show runs, and `flip`, which needs no source
abbrev pub with_views : App → App
with_views a = with_subcommand (with_subcommand (with_subcommand (with_subcommand a trace_app.top) picture_app.top) explore_app.top) flip_app.top

abbrev pub cilvm_app : App
cilvm_app = with_views (with_runs (with_version (with_required_subcommand (new_app (codes "cilvm")))))

-- ---- what the words ask for

-- the command with its files and options
pub data Request : Type 0 where
  check : Text → Bool → Request
  run : Text → Text → Option ℕ → Limits → Bool → Bool → Request
  replay : Text → Text → Option ℕ → GivenLimits → Bool → Bool → Request
  trace : Text → Text → GivenLimits → Bool → Request
  picture : Text → Text → ℕ → Option ℕ → GivenLimits → Bool → Request
  threads : Text → ℕ → Option Text → StopAt → Option ℕ → Limits → Bool → Bool → Request
  explore : Text → Extent → Option Text → Limits → Bool → Request
  flip : ℕ → ℕ → ℕ → ℕ → Request

abbrev pub requested_run : Text → Option ℕ → Bool → Bool → RunKind → Request
requested_run file most_printed explain stats (Schedule text limits) = run file text.now most_printed limits explain stats
requested_run file most_printed explain stats (Replay schedule limits expected) = replay file schedule.now most_printed limits explain stats
requested_run file most_printed explain stats (Workers workers kept stop_at limits) = threads file workers.count (option_map (λ name. name.now) kept) stop_at most_printed limits explain stats

abbrev pub request_of : Order → Request
request_of (Check file explain) = check file.now explain
request_of (Run r) = requested_run r.file.now r.most_printed r.explain r.stats r.kind
request_of (Trace file schedule limits expected explain) = trace file.now schedule.now limits explain
request_of (Picture file schedule part limits expected explain) = picture file.now schedule.now part.first part.last limits explain
request_of (Explore file extent kept limits explain) = explore file.now extent (option_map (λ name. name.now) kept) limits explain
request_of (Flip sizes) = flip sizes.seats sizes.objects sizes.slots sizes.rounds

-- the number that the text writes in decimal digits, where it lies in the range
abbrev pub number_in : ℕ → ℕ → Text → Option ℕ
number_in least most text =
    if is_unsigned_in least most text then Some (digits_value 10 (without_leading_plus text))
    else None

abbrev pub number_at : ℕ → ℕ → Text → List Row → Option ℕ
number_at least most id rows = option_and_then (number_in least most) (first_of id rows)

-- the most words of a space: those of the first one where none is said
abbrev pub most_in : ℕ → List Row → Option ℕ
most_in words rows = option_map_or (number_in LEAST_WORDS MOST_WORDS) (first_of (codes "max-words") rows) (Some words)

abbrev pub limits_in : List Row → Option Limits
limits_in rows = option_and_then (λ words. option_and_then (λ most. option_and_then (λ budget. option_map (λ depth. record {
  words = words;
  max_words = most;
  budget = budget;
  depth = depth;
}) (number_at 1 MOST_DEPTH (codes "depth") rows)) (number_at 1 MOST_BUDGET (codes "budget") rows)) (most_in words rows))
    (number_at LEAST_WORDS MOST_WORDS (codes "words") rows)

-- a flag that is given has the value `true`
abbrev pub is_true : Option Text → Bool
is_true None = false
is_true (Some text) = bytes_eq text (codes "true")

abbrev pub flag_at : Text → List Row → Bool
flag_at id rows = is_true (first_of id rows)

abbrev pub check_in : List Row → Option Request
check_in rows = option_map (λ file. check file (flag_at (codes "explain") rows)) (first_of (codes "file") rows)

-- a source's file, a schedule and the limits of a run
abbrev pub scheduled_in : List Row → Option (Text × Text × Limits)
scheduled_in rows = option_and_then (λ file. option_and_then (λ schedule. option_map (λ limits. (file, schedule, limits))
    (limits_in rows)) (first_of (codes "schedule") rows)) (first_of (codes "file") rows)

-- a number, where one is given
abbrev pub given_at : ℕ → ℕ → Text → List Row → Option (Option ℕ)
given_at least most id rows = option_map_or (λ text. option_map Some (number_in least most text)) (first_of id rows) (Some None)

-- the most bytes that the program prints, where that is given
abbrev pub output_in : List Row → Option (Option ℕ)
output_in rows = given_at LEAST_OUTPUT MOST_OUTPUT (codes "output") rows

abbrev pub run_in : List Row → Option Request
run_in rows = option_and_then (λ most. option_map (λ (s : Text × Text × Limits). run s.0 s.1 most s.2 (flag_at (codes "explain") rows) (flag_at (codes "stats") rows)) (scheduled_in rows)) (output_in rows)

-- the limits that are given
abbrev pub given_in : List Row → Option GivenLimits
given_in rows = option_and_then (λ words. option_and_then (λ most. option_and_then (λ budget. option_map (λ depth. record {
  words = words;
  max_words = most;
  budget = budget;
  depth = depth;
}) (given_at 1 MOST_DEPTH (codes "depth") rows)) (given_at 1 MOST_BUDGET (codes "budget") rows)) (given_at LEAST_WORDS MOST_WORDS (codes "max-words") rows))
    (given_at LEAST_WORDS MOST_WORDS (codes "words") rows)

-- a source's file, the file of a schedule, and the limits that are given
abbrev pub replayed_in : List Row → Option (Text × Text × GivenLimits)
replayed_in rows = option_and_then (λ file. option_and_then (λ schedule. option_map (λ given. (file, schedule, given))
    (given_in rows)) (first_of (codes "schedule") rows)) (first_of (codes "file") rows)

abbrev pub replay_in : List Row → Option Request
replay_in rows = option_and_then (λ most. option_map (λ (s : Text × Text × GivenLimits). replay s.0 s.1 most s.2 (flag_at (codes "explain") rows) (flag_at (codes "stats") rows))
    (replayed_in rows)) (output_in rows)

abbrev pub trace_in : List Row → Option Request
trace_in rows = option_map (λ (s : Text × Text × GivenLimits). trace s.0 s.1 s.2 (flag_at (codes "explain") rows)) (replayed_in rows)

-- the last event that is drawn, where one is said: not before the first one
abbrev pub last_in : ℕ → List Row → Option (Option ℕ)
last_in first rows = option_map_or (λ text. option_map Some (number_in first LAST_NUMBER text)) (first_of (codes "to") rows) (Some None)

-- the first and the last one
abbrev pub part_in : List Row → Option (ℕ × Option ℕ)
part_in rows = option_and_then (λ first. option_map (λ last. (first, last)) (last_in first rows)) (number_at 1 LAST_NUMBER (codes "from") rows)

abbrev pub picture_in : List Row → Option Request
picture_in rows = option_and_then (λ (p : ℕ × Option ℕ). option_map (λ (s : Text × Text × GivenLimits). picture s.0 s.1 p.0 p.1 s.2 (flag_at (codes "explain") rows))
    (replayed_in rows)) (part_in rows)

-- a source's file, the number of workers and the limits of a run
abbrev pub worked_in : List Row → Option (Text × ℕ × Limits)
worked_in rows = option_and_then (λ file. option_and_then (λ workers. option_map (λ limits. (file, workers, limits))
    (limits_in rows)) (number_at 1 16 (codes "workers") rows)) (first_of (codes "file") rows)

-- a run stops at a deadlock exactly where the flag is given
abbrev pub stop_at_in : List Row → StopAt
stop_at_in rows = if flag_at (codes "stop-at-deadlock") rows then Deadlock else End

-- whether a run by workers is explained: if it is asked for, and if the run is to stop at a deadlock
abbrev pub is_explained_in : List Row → Bool
is_explained_in rows = if flag_at (codes "explain") rows then true else flag_at (codes "stop-at-deadlock") rows

abbrev pub threads_in : List Row → Option Request
threads_in rows = option_and_then (λ most. option_map (λ (s : Text × ℕ × Limits). threads s.0 s.1 (first_of (codes "record") rows) (stop_at_in rows) most s.2 (is_explained_in rows) (flag_at (codes "stats") rows))
    (worked_in rows)) (output_in rows)

-- the outcome at which an exploration stops, by its word
abbrev pub goal_in : Text → Option Goal
goal_in text =
    if bytes_eq text (codes "fault") then Some Fault
    else (if bytes_eq text (codes "deadlock") then Some Deadlock
    else (if bytes_eq text (codes "output") then Some Output else None))

-- none where no text is given; no result where the text can't be read
abbrev pub parsed_option : {X : Type 0} → (Text → Option X) → Option Text → Option (Option X)
parsed_option read None = Some None
parsed_option read (Some text) = option_map (λ x. Some x) (read text)

-- the bounds of an exploration
abbrev pub extent_in : List Row → Option Extent
extent_in rows = option_and_then (λ states. option_and_then (λ preemptions. option_map (λ until. record {
  states = states;
  preemptions = preemptions;
  until = until;
}) (parsed_option goal_in (first_of (codes "until") rows))) (parsed_option (number_in 0 1000) (first_of (codes "preemptions") rows)))
    (number_at 1 1000000 (codes "states") rows)

-- a source's file, the bounds of its exploration, and the limits of its runs
abbrev pub explored_in : List Row → Option (Text × Extent × Limits)
explored_in rows = option_and_then (λ file. option_and_then (λ extent. option_map (λ limits. (file, extent, limits))
    (limits_in rows)) (extent_in rows)) (first_of (codes "file") rows)

abbrev pub explore_in : List Row → Option Request
explore_in rows = option_map (λ (s : Text × Extent × Limits). explore s.0 s.1 (first_of (codes "save") rows) s.2 (flag_at (codes "explain") rows)) (explored_in rows)

abbrev pub flip_in : List Row → Option Request
flip_in rows = option_and_then (λ seats. option_and_then (λ objects. option_and_then (λ slots.
    option_map (flip seats objects slots) (number_at 0 10000 (codes "rounds") rows))
    (number_at 1 16 (codes "slots") rows)) (number_at 1 256 (codes "objects") rows))
    (number_at 1 16 (codes "seats") rows)

-- what a subcommand's name and its matches ask for
abbrev pub named_in : Text → List Row → Option Request
named_in name rows =
    if bytes_eq name (codes "check") then check_in rows
    else (if bytes_eq name (codes "threads") then threads_in rows
    else (if bytes_eq name (codes "run") then run_in rows
    else (if bytes_eq name (codes "replay") then replay_in rows
    else (if bytes_eq name (codes "trace") then trace_in rows
    else (if bytes_eq name (codes "picture") then picture_in rows
    else (if bytes_eq name (codes "explore") then explore_in rows
    else (if bytes_eq name (codes "flip") then flip_in rows else None)))))))

abbrev pub request_in : Option (Text × List Row) → Option Request
request_in = option_and_then (λ p. named_in p.0 p.1)

-- a file's name ends in `.il`, as no command does
abbrev pub is_source_name : Text → Bool
is_source_name name = ends_with nat_eq name (codes ".il")

-- the word after the program's name is the name of a source
abbrev pub begins_with_source : List Text → Bool
begins_with_source words = option_map_or is_source_name (slice_get words 1) false

-- what the words ask for, by what clap finds in them: where they begin with a source, all of them are for `threads`
abbrev pub request_by : List Text → Option Request
request_by words =
    if begins_with_source words then threads_in (matches_of threads_app words)
    else request_in (subcommand_of cilvm_app words)

-- what clap reports of the arguments, a request for help or for the version among it
abbrev pub faults_of : List Text → Kinds
faults_of words = if begins_with_source words then fault_of threads_app words else fault_of cilvm_app words

-- an error is among what clap reports of the arguments
abbrev pub HasUsageError : Kinds → Type 0
HasUsageError faults = (k : ErrorKind) × IsAmong k faults × (k ≢ DisplayHelp) × (k ≢ DisplayVersion)

-- ---- the answer

-- the fault that an error of clap becomes, unless memory runs out
abbrev pub FaultIs : ErrorKind → LineFault → Type 0
FaultIs k (Help text) = k ≡ DisplayHelp
FaultIs k (Version text) = k ≡ DisplayVersion
FaultIs k (Bad text) = (k ≢ DisplayHelp) × (k ≢ DisplayVersion) × (k ≢ OutOfMemory)
FaultIs k Memory = ⊤

-- the fault of words that ask for nothing
abbrev pub IsOfNone : Option Request → LineFault → Type 0
IsOfNone requested (Bad text) = requested ≡ None
IsOfNone requested Memory = ⊤
IsOfNone requested _ = ⊥

abbrev pub Refuses : Kinds → Option Request → LineFault → Type 0
Refuses faults requested (Help text) = IsAmong DisplayHelp faults
Refuses faults requested (Version text) = IsAmong DisplayVersion faults
Refuses faults requested (Bad text) = HasUsageError faults ⊎ (requested ≡ None)
Refuses faults requested Memory = ⊤

-- Ok comes where clap has nothing against the words, and holds what they ask for
abbrev pub AnswersBy : Kinds → Option Request → Result Order LineFault → Type 0
AnswersBy faults requested (Ok order) = (faults ≡ []) × (requested ≡ Some (request_of order))
AnswersBy faults requested (Err fault) = Refuses faults requested fault

abbrev pub Answers : List Text → Result Order LineFault → Type 0
Answers words answer = AnswersBy (faults_of words) (request_by words) answer

-- the numbers of events from 1 on, of which the last one is not before the first
abbrev pub IsPartInRange : Part → Type 0
IsPartInRange part = (1 ≤ part.first) × (part.first ≤ LAST_NUMBER) × IfSome part.last (λ last. (part.first ≤ last) × (last ≤ LAST_NUMBER))

-- the most bytes that a program prints, if there is a bound
abbrev pub IsOutputInRange : Option ℕ → Type 0
IsOutputInRange most = IfSome most (λ bytes. (LEAST_OUTPUT ≤ bytes) × (bytes ≤ MOST_OUTPUT))

-- each limit that is given lies in its range
abbrev pub AreGivenInRange : GivenLimits → Type 0
AreGivenInRange given = IfSome given.words (λ n. (LEAST_WORDS ≤ n) × (n ≤ MOST_WORDS)) × IfSome given.max_words (λ n. (LEAST_WORDS ≤ n) × (n ≤ MOST_WORDS))
    × IfSome given.budget (λ n. (1 ≤ n) × (n ≤ MOST_BUDGET)) × IfSome given.depth (λ n. (1 ≤ n) × (n ≤ MOST_DEPTH))

-- the limits of a run lie in their ranges, and nothing is known of a recorded run
abbrev pub IsKindInRange : RunKind → Type 0
IsKindInRange (Schedule text limits) = are_numbers_in_range limits ≡ true
IsKindInRange (Replay schedule limits expected) = AreGivenInRange limits × (expected ≡ None)
IsKindInRange (Workers workers kept stop_at limits) = are_numbers_in_range limits ≡ true

-- each number of the order lies in its range, and nothing is known of a recorded run
abbrev pub IsInRange : Order → Type 0
IsInRange (Check file explain) = ⊤
IsInRange (Run r) = IsKindInRange r.kind × IsOutputInRange r.most_printed
IsInRange (Trace file schedule limits expected explain) = AreGivenInRange limits × (expected ≡ None)
IsInRange (Picture file schedule part limits expected explain) = AreGivenInRange limits × (expected ≡ None) × IsPartInRange part
IsInRange (Explore file extent kept limits explain) = are_numbers_in_range limits ≡ true
IsInRange (Flip sizes) = ⊤
