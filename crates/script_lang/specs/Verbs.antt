-- The table of the grammar: each verb, and the forms of the words that follow it.
use Rattle.std.specs.Prelude.{ℕ, ◌+◌, ◌&&◌, nat_le, Bool, List, [], ◌∷◌, Option, length, codes}
use Rattle.std.specs.List.{find}
use Rattle.std.specs.Str.{bytes_eq}
use Rattle.script_lang.specs.declared.form.Form.{Form}
use Rattle.script_lang.specs.declared.form.Form.TheVariants as form
use Rattle.script_lang.specs.declared.verb.Verb.{Verb}
use Rattle.script_lang.specs.declared.verb.Verb.TheVariants as v

abbrev pub name_of : Verb → List ℕ
name_of v.Create = codes "create"
name_of v.Write = codes "write"
name_of v.Read = codes "read"
name_of v.Flush = codes "flush"
name_of v.SetX = codes "setx"
name_of v.DelX = codes "delx"
name_of v.GetX = codes "getx"
name_of v.Put = codes "put"
name_of v.Sync = codes "sync"
name_of v.Resize = codes "resize"
name_of v.Snapshot = codes "snapshot"
name_of v.Clone = codes "clone"
name_of v.Inflate = codes "inflate"
name_of v.Decouple = codes "decouple"
name_of v.Delete = codes "delete"
name_of v.Rename = codes "rename"
name_of v.ReadOnly = codes "readonly"
name_of v.Info = codes "info"
name_of v.List = codes "list"
name_of v.Df = codes "df"

abbrev pub verbs : List Verb
verbs =
    v.Create ∷ v.Write ∷ v.Read ∷ v.Flush ∷ v.SetX ∷ v.DelX ∷ v.GetX ∷ v.Put ∷ v.Sync ∷ v.Resize
    ∷ v.Snapshot ∷ v.Clone ∷ v.Inflate ∷ v.Decouple ∷ v.Delete ∷ v.Rename ∷ v.ReadOnly ∷ v.Info ∷ v.List ∷ v.Df ∷ []

abbrev pub is_verb : List ℕ → Verb → Bool
is_verb word verb = bytes_eq (name_of verb) word

-- the verb that a word is
unfoldable pub verb_in : List ℕ → Option Verb
verb_in word = find (is_verb word) verbs

abbrev pub forms_of : Verb → List Form
forms_of v.Create = form.Name ∷ form.Number ∷ form.Thickness ∷ form.Uuid ∷ []
forms_of v.Write = form.Volume ∷ form.Number ∷ form.Count ∷ form.Number ∷ []
forms_of v.Read = form.Volume ∷ form.Number ∷ form.Count ∷ []
forms_of v.Flush = []
forms_of v.SetX = form.Volume ∷ form.Key ∷ form.Value ∷ []
forms_of v.DelX = form.Volume ∷ form.Key ∷ []
forms_of v.GetX = form.Volume ∷ form.Key ∷ []
forms_of v.Put = form.Volume ∷ form.Key ∷ form.Value ∷ []
forms_of v.Sync = form.Volume ∷ []
forms_of v.Resize = form.Volume ∷ form.Number ∷ []
forms_of v.Snapshot = form.Volume ∷ form.Name ∷ []
forms_of v.Clone = form.Volume ∷ form.Name ∷ []
forms_of v.Inflate = form.Volume ∷ []
forms_of v.Decouple = form.Volume ∷ []
forms_of v.Delete = form.Volume ∷ []
forms_of v.Rename = form.Volume ∷ form.Name ∷ []
forms_of v.ReadOnly = form.Volume ∷ []
forms_of v.Info = form.Volume ∷ []
forms_of v.List = []
forms_of v.Df = []

-- how many words may be left out at the end: the uuid of a volume that is made
abbrev pub optional_words : Verb → ℕ
optional_words v.Create = 1
optional_words verb = 0

-- whether a verb is followed by so many words
abbrev pub takes : Verb → ℕ → Bool
takes verb n = nat_le n (length (forms_of verb)) && nat_le (length (forms_of verb)) (n + optional_words verb)
