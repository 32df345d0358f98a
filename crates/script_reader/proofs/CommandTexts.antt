-- A command that is written as a line is the command of that line.
use Rattle.std.proofs.Common.{◌≡◌, ◌<◌, ◌^◌, ℕ, List, [], ◌∷◌, codes, IsTrue, All, refl, sym, subst, arith}
use Rattle.std.proofs.lemmas.List.Elements.{All-from_recursion, All-weaker}
use Rattle.std.proofs.lemmas.Bool.Decides.{nat_tests}
use Rattle.std.proofs.lemmas.List.Splits.{join_with_byte-slice_split}
use Rattle.hex.specs.Hex.{IsBytes}
use Rattle.ost_types.specs.Csum.{hex_of}
use Rattle.ost_types.specs.Path.{Path, text_of}
use Rattle.ost_types.specs.Text.{IsName}
use Rattle.repo_layout.specs.RefName.{IsPart, IsRefName, is_part_byte, parts_of}
use Rattle.repo_layout.specs.RefFile.{IsSum}
use Rattle.script.specs.Words.{AreRevName, AreRevPath, IsBranch, IsCommit, IsRev, IsWritten}
use Rattle.script.specs.declared.command.Rev.{Rev}
use Rattle.script.specs.declared.command.Rev.TheVariants.{Ref, Commit}
use Rattle.script.specs.declared.command.Command.TheVariants.{Refs, Status, RevParse, Log, Ls, Cat, Checkout, Reset, DropRef, Prune, Cleanup, Commit as CommitTree}
use Rattle.script.specs.declared.command.Written.{Written}
use Rattle.script.specs.declared.command.Written.TheVariants as written
use Rattle.script.specs.Field.{IsNameField, IsPathText, field_text}
use Rattle.script_reader.specs.Nodes.{fields_of}
use Rattle.script_reader.specs.Writing.{IsWritable, IsWritableRev, command_line, command_words, number_text, rev_name_fields, rev_path_fields, rev_text}
use Rattle.script_reader.proofs.FieldTexts.{IsVisible, bytes_from, field_spelled, field_visible, hex_visible, visible_all, visible_bytes}
use Rattle.script_reader.proofs.Joins.{Lacks, joined_all}
use Rattle.script_reader.proofs.Lines.{cut_words, one_line}
use Rattle.script_reader.proofs.NodeTexts.{path_back, path_visible, number_back, number_visible, text_back, text_bytes}

part_byte : (b : ℕ) → IsTrue (is_part_byte b) → b < 256
part_byte b is = grind (arith, nat_tests)

part_small : (part : List ℕ) → IsPart part → All (λ b. b < 256) part
part_small part is = All-weaker (λ b. IsTrue (is_part_byte b)) (λ b. b < 256) part_byte part is.bytes

ref_bytes : (name : List ℕ) → IsRefName name → IsBytes name
ref_bytes name is = bytes_from name (subst (All (λ b. b < 256)) (join_with_byte-slice_split 47 name) (joined_all (λ b. b < 256) 47 (parts_of name) (omega arith) (All-weaker IsPart (All (λ b. b < 256)) part_small (parts_of name) is.parts)))

branch_back : (name : List ℕ) → IsRefName name → IsBranch (field_text name) name
branch_back name is = record { spelled = field_spelled name (ref_bytes name is); ref = is }

sum_bytes : (sum : List ℕ) → IsSum sum → IsBytes (hex_of sum)
sum_bytes sum is = visible_bytes (hex_of sum) (hex_visible sum is.bytes)

commit_back : (sum : List ℕ) → IsSum sum → IsCommit (field_text (hex_of sum)) sum
commit_back sum is = record { spelled = field_spelled (hex_of sum) (sum_bytes sum is); whole = is }

rev_back : (rev : Rev) → IsWritableRev rev → IsRev (rev_text rev) rev
rev_back (Ref name) is = branch_back name is
rev_back (Commit sum) is = commit_back sum is

branch_visible : (name : List ℕ) → IsRefName name → All IsVisible (field_text name)
branch_visible name is = field_visible name (ref_bytes name is)

sum_visible : (sum : List ℕ) → IsSum sum → All IsVisible (field_text (hex_of sum))
sum_visible sum is = field_visible (hex_of sum) (sum_bytes sum is)

rev_visible : (rev : Rev) → IsWritableRev rev → All IsVisible (rev_text rev)
rev_visible (Ref name) is = branch_visible name is
rev_visible (Commit sum) is = sum_visible sum is

rev_path_back : (rev : Rev) (path : Path) → IsWritableRev rev × IsPathText (text_of path) path → AreRevPath (rev_path_fields rev path) rev path
rev_path_back rev path is = (rev_text rev, field_text (text_of path), refl, rev_back rev is.0, path_back path is.1)

name_back : (name : List ℕ) → IsName name → IsNameField (field_text name) name
name_back name is = record { spelled = field_spelled name (text_bytes name is.text); whole = is }

name_visible : (name : List ℕ) → IsName name → All IsVisible (field_text name)
name_visible name is = field_visible name (text_bytes name is.text)

rev_name_back : (rev : Rev) (name : List ℕ) → IsWritableRev rev × IsName name → AreRevName (rev_name_fields rev name) rev name
rev_name_back rev name is = (rev_text rev, field_text name, refl, rev_back rev is.0, name_back name is.1)

-- a commit's tree has a number that a line can hold
abbrev pub HasShortTree : Written → Type 0
HasShortTree (written.Command command) = Unit {0}
HasShortTree (written.Commit line) = line.tree < 2 ^ 32

words_visible : (w : Written) → IsWritable w → HasShortTree w → All (All IsVisible) (command_words w)
words_visible (written.Command Refs) is short = All-from_recursion (All IsVisible) (command_words (written.Command Refs)) (visible_all (codes "refs") refl, tt)
words_visible (written.Command Status) is short = All-from_recursion (All IsVisible) (command_words (written.Command Status)) (visible_all (codes "status") refl, tt)
words_visible (written.Command (RevParse rev)) is short = All-from_recursion (All IsVisible) (command_words (written.Command (RevParse rev))) (visible_all (codes "rev-parse") refl, (rev_visible rev is, tt))
words_visible (written.Command (Log rev)) is short = All-from_recursion (All IsVisible) (command_words (written.Command (Log rev))) (visible_all (codes "log") refl, (rev_visible rev is, tt))
words_visible (written.Command (Ls rev path)) is short =
    All-from_recursion (All IsVisible) (command_words (written.Command (Ls rev path))) (visible_all (codes "ls") refl, (rev_visible rev is.0, (path_visible path is.1, tt)))
words_visible (written.Command (Cat rev path)) is short =
    All-from_recursion (All IsVisible) (command_words (written.Command (Cat rev path))) (visible_all (codes "cat") refl, (rev_visible rev is.0, (path_visible path is.1, tt)))
words_visible (written.Command (Checkout rev name)) is short =
    All-from_recursion (All IsVisible) (command_words (written.Command (Checkout rev name))) (visible_all (codes "checkout") refl, (rev_visible rev is.0, (name_visible name is.1, tt)))
words_visible (written.Command (Reset branch commit)) is short =
    All-from_recursion (All IsVisible) (command_words (written.Command (Reset branch commit))) (visible_all (codes "reset") refl, (branch_visible branch is.0, (sum_visible commit is.1, tt)))
words_visible (written.Command (DropRef branch)) is short = All-from_recursion (All IsVisible) (command_words (written.Command (DropRef branch))) (visible_all (codes "drop") refl, (branch_visible branch is, tt))
words_visible (written.Command (Prune depth)) is short =
    All-from_recursion (All IsVisible) (command_words (written.Command (Prune depth))) (visible_all (codes "prune") refl, (number_visible depth (omega (arith, is)), tt))
words_visible (written.Command Cleanup) is short = All-from_recursion (All IsVisible) (command_words (written.Command Cleanup)) (visible_all (codes "cleanup") refl, tt)
words_visible (written.Command (CommitTree branch tree subject body time)) is short = absurd is
words_visible (written.Commit line) is short =
    All-from_recursion (All IsVisible) (command_words (written.Commit line)) (
      visible_all (codes "commit") refl,
      (
        branch_visible line.branch is.0,
        (number_visible line.tree (omega (arith, short)), (field_visible line.subject (text_bytes line.subject is.1), (field_visible line.body (text_bytes line.body is.2), (number_visible line.time is.3, tt)))),
      ),
    )

words_back : (w : Written) → IsWritable w → HasShortTree w → IsWritten (command_words w) w
words_back (written.Command Refs) is short = record { fields = []; line = refl; has = refl }
words_back (written.Command Status) is short = record { fields = []; line = refl; has = refl }
words_back (written.Command (RevParse rev)) is short = record { fields = rev_text rev ∷ []; line = refl; has = (rev_text rev, refl, rev_back rev is) }
words_back (written.Command (Log rev)) is short = record { fields = rev_text rev ∷ []; line = refl; has = (rev_text rev, refl, rev_back rev is) }
words_back (written.Command (Ls rev path)) is short = record { fields = rev_path_fields rev path; line = refl; has = rev_path_back rev path is }
words_back (written.Command (Cat rev path)) is short = record { fields = rev_path_fields rev path; line = refl; has = rev_path_back rev path is }
words_back (written.Command (Checkout rev name)) is short = record { fields = rev_name_fields rev name; line = refl; has = rev_name_back rev name is }
words_back (written.Command (Reset branch commit)) is short =
    record { fields = field_text branch ∷ field_text (hex_of commit) ∷ []; line = refl; has = (field_text branch, field_text (hex_of commit), refl, branch_back branch is.0, commit_back commit is.1) }
words_back (written.Command (DropRef branch)) is short = record { fields = field_text branch ∷ []; line = refl; has = (field_text branch, refl, branch_back branch is) }
words_back (written.Command (Prune depth)) is short = record { fields = number_text depth ∷ []; line = refl; has = (number_text depth, refl, number_back (2 ^ 32) depth (omega arith) is) }
words_back (written.Command Cleanup) is short = record { fields = []; line = refl; has = refl }
words_back (written.Command (CommitTree branch tree subject body time)) is short = absurd is
words_back (written.Commit line) is short =
    let fields : List (List ℕ) = field_text line.branch ∷ number_text line.tree ∷ field_text line.subject ∷ field_text line.body ∷ number_text line.time ∷ [] in (
      fields,
      refl,
      (
        field_text line.branch,
        number_text line.tree,
        field_text line.subject,
        field_text line.body,
        number_text line.time,
        refl,
        record {
          branch = branch_back line.branch is.0;
          tree = number_back (2 ^ 32) line.tree (omega arith) short;
          subject = text_back line.subject is.1;
          body = text_back line.body is.2;
          time = number_back (2 ^ 64) line.time (omega arith) is.3;
        },
      ),
    )

line_back : (w : Written) → IsWritable w → HasShortTree w → fields_of (command_line w) ≡ command_words w
line_back (written.Command command) is short = cut_words _ _ (words_visible (written.Command command) is short)
line_back (written.Commit line) is short = cut_words _ _ (words_visible (written.Commit line) is short)

pub command_back : (w : Written) → IsWritable w → HasShortTree w → IsWritten (fields_of (command_line w)) w
command_back w is short = subst (λ words. IsWritten words w) (sym (line_back w is short)) (words_back w is short)

pub command_one_line : (w : Written) → IsWritable w → HasShortTree w → Lacks 10 (command_line w)
command_one_line w is short = one_line (command_words w) (words_visible w is short)
