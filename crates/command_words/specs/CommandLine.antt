-- The program's command line, as `clap` reads it: a command with one level of subcommands.
use Rattle.std.specs.Prelude.{true, false, List, [], ◌∷◌, ◌++◌, Some, codes}
use Rattle.clap.specs.declared.builder.action.ArgAction.TheVariants.{SetTrue}
use Rattle.clap.specs.Walk.{Rule, Text}
use Rattle.clap.specs.Simple.{App, Shape, new_rule, new_shape, with_rule}

-- an argument that is known by its place, and has to be there
abbrev pub placed_rule : Text → Rule
placed_rule id = record (new_rule id) { required = true }

-- an option with a value, `--NAME VALUE`
abbrev pub option : Text → Rule
option name = record (new_rule name) { long = Some name; value_names = 1 }

-- an option without a value, `--NAME`
abbrev pub flag : Text → Rule
flag name = record (new_rule name) { long = Some name; action = Some SetTrue }

-- a subcommand with these arguments
abbrev pub subcommand : Text → List Rule → Shape
subcommand name rules = record (new_shape name) { rules = rules }

abbrev pub run_line : Shape
run_line =
    subcommand (codes "run") (placed_rule (codes "IMAGE") ∷ option (codes "schedule") ∷ flag (codes "threads") ∷ [])

-- with the options on sizes
abbrev pub sized_format_line : Shape
sized_format_line =
    subcommand (codes "format")
    (placed_rule (codes "IMAGE") ∷ option (codes "cluster") ∷ option (codes "md-pages") ∷ [])

-- and with those that make a logical volume store
abbrev pub format_line : Shape
format_line = record sized_format_line {
  rules = sized_format_line.rules ++ (option (codes "lvol") ∷ option (codes "uuid") ∷ []);
}

abbrev pub list_line : Shape
list_line =
    subcommand (codes "list") (placed_rule (codes "IMAGE") ∷ flag (codes "json") ∷ flag (codes "tree") ∷ [])

abbrev pub export_line : Shape
export_line =
    subcommand (codes "export")
    (placed_rule (codes "IMAGE") ∷ placed_rule (codes "TARGET") ∷ placed_rule (codes "VOLUME") ∷ [])

-- and behind its own arguments the two numbers that say which script is drawn
abbrev pub with_script : App → App
with_script a = with_rule (with_rule a (placed_rule (codes "NUMBER"))) (placed_rule (codes "SIZE"))

abbrev pub generate_line : Shape
generate_line = subcommand (codes "generate") (placed_rule (codes "NUMBER") ∷ placed_rule (codes "SIZE") ∷ [])

abbrev pub exercise_line : Shape
exercise_line =
    subcommand (codes "exercise")
    (placed_rule (codes "IMAGE") ∷ placed_rule (codes "NUMBER") ∷ placed_rule (codes "SIZE") ∷ [])

-- The words are those behind the program's name. One of them names a subcommand; without words the answer is the help,
-- and there is a version to ask for.
abbrev pub without_commands : App
without_commands = record {
  top = record (new_shape (codes "blobtool")) {
    no_binary_name = true;
    arg_required_else_help = true;
    subcommand_required = true;
    has_version = true;
  };
  subs = [];
}

-- with the subcommands on a store that is there or is to be
abbrev pub with_stores : App
with_stores = record {
  top = record without_commands.top { is_leaf = false };
  subs = run_line ∷ format_line ∷ list_line ∷ export_line ∷ [];
}

abbrev pub command_line : App
command_line = record with_stores {
  subs = with_stores.subs ++ (generate_line ∷ exercise_line ∷ []);
}
