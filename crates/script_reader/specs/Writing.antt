-- How trees and lanes are written as a script, each thing in one spelling.
use Rattle.std.specs.Prelude.{◌≡◌, ◌≢◌, ◌+◌, ◌-◌, ◌/◌, ◌%◌, ◌^◌, ◌<◌, ◌≤◌, nat_lt, if◌then◌else◌, ℕ, List, [], ◌∷◌, ◌++◌, All, length, map, codes, Option, Some, None}
use Rattle.std.specs.List.{flat_map, join_with_byte}
use Rattle.std.specs.Fmt.{decimal}
use Rattle.std.specs.declared.cmp.Ordering.TheVariants.{Less}
use Rattle.hex.specs.Hex.{IsBytes}
use Rattle.ost_types.specs.Csum.{hex_of}
use Rattle.ost_types.specs.Path.{Path, path_cmp, text_of}
use Rattle.ost_types.specs.Text.{IsName, IsText}
use Rattle.ost_types.specs.declared.meta.Xattr.{Xattr}
use Rattle.ost_forms.specs.declared.tree_item.TreeItem.{TreeItem}
use Rattle.ost_forms.specs.declared.tree_item.BodySpec.{BodySpec}
use Rattle.ost_forms.specs.declared.tree_item.BodySpec.TheVariants.{Given, Fill, Target}
use Rattle.repo_layout.specs.RefName.{IsRefName}
use Rattle.repo_layout.specs.RefFile.{IsSum}
use Rattle.script.specs.Field.{escaped, field_text, IsPathText}
use Rattle.script.specs.Words.{Resolves, keyword_of, spelled}
use Rattle.script.specs.declared.command.Rev.{Rev}
use Rattle.script.specs.declared.command.Rev.TheVariants.{Ref, Commit}
use Rattle.script.specs.declared.command.Command.{Command}
use Rattle.script.specs.declared.command.Command.TheVariants.{Refs, Status, RevParse, Log, Ls, Cat, Checkout, Reset, DropRef, Prune, Cleanup, Commit as CommitTree}
use Rattle.script.specs.declared.command.Written.{Written}
use Rattle.script.specs.declared.command.Written.TheVariants as written
use Rattle.script_reader.specs.declared.node.NodeKind.TheVariants.{Folder, File, Link}
use Rattle.script_reader.specs.Nodes.{file_bits, folder_bits, link_mode, node_word}
use Rattle.script_reader.specs.Script.{Tree, Commands, command_limit, header, lane_limit, script_limit}
use Rattle.script_reader.specs.Values.{fill_limit}

abbrev pub number_text : ℕ → List ℕ
number_text n = field_text (decimal n)

-- words with one space (32) between them
abbrev pub line_text : List (List ℕ) → List ℕ
line_text words = join_with_byte 32 words

-- ---- nodes

-- an attribute's name and value, with `:` (58) between them, and `,` (44) between attributes
abbrev pub pair_text : Xattr → List ℕ
pair_text xattr = hex_of xattr.name ++ (58 ∷ hex_of xattr.value)

abbrev pub xattrs_text : List Xattr → List ℕ
xattrs_text xattrs = field_text (join_with_byte 44 (map pair_text xattrs))

-- permissions in octal digits, of which `0` is 48
abbrev pub octal_text : ℕ → List ℕ
octal_text n =
    if nat_lt n 8 then (48 + n) ∷ []
    else if nat_lt n 64 then (48 + n / 8) ∷ (48 + n % 8) ∷ []
    else if nat_lt n 512 then (48 + n / 64) ∷ (48 + n / 8 % 8) ∷ (48 + n % 8) ∷ []
    else (48 + n / 512) ∷ (48 + n / 64 % 8) ∷ (48 + n / 8 % 8) ∷ (48 + n % 8) ∷ []

-- the permissions of a mode that has these bits of its type above them
abbrev pub mode_text : ℕ → ℕ → List ℕ
mode_text type_bits mode = field_text (octal_text (mode - type_bits))

-- `*` (42), the number, `:` and the byte
abbrev pub fill_text : ℕ → ℕ → List ℕ
fill_text len byte = field_text (42 ∷ (decimal len ++ (58 ∷ hex_of (byte ∷ []))))

-- the words of a file with this content
abbrev pub file_words : TreeItem → List ℕ → List (List ℕ)
file_words item content =
    node_word File ∷ field_text (text_of item.path) ∷ number_text item.meta.uid ∷ number_text item.meta.gid ∷ mode_text file_bits item.meta.mode ∷ xattrs_text item.meta.xattrs ∷ content ∷ []

-- the words of a node that holds this
abbrev pub node_words : TreeItem → Option BodySpec → List (List ℕ)
node_words item None =
    node_word Folder ∷ field_text (text_of item.path) ∷ number_text item.meta.uid ∷ number_text item.meta.gid ∷ mode_text folder_bits item.meta.mode ∷ xattrs_text item.meta.xattrs ∷ []
node_words item (Some (Given bytes)) = file_words item (61 ∷ escaped bytes)
node_words item (Some (Fill len byte)) = file_words item (fill_text len byte)
node_words item (Some (Target target)) =
    node_word Link ∷ field_text (text_of item.path) ∷ number_text item.meta.uid ∷ number_text item.meta.gid ∷ xattrs_text item.meta.xattrs ∷ field_text target ∷ []

abbrev pub node_line : TreeItem → List ℕ
node_line item = line_text (node_words item item.body)

-- ---- commands

abbrev pub rev_text : Rev → List ℕ
rev_text (Ref name) = field_text name
rev_text (Commit sum) = field_text (hex_of sum)

abbrev pub rev_path_fields : Rev → Path → List (List ℕ)
rev_path_fields rev path = rev_text rev ∷ field_text (text_of path) ∷ []

abbrev pub rev_name_fields : Rev → List ℕ → List (List ℕ)
rev_name_fields rev name = rev_text rev ∷ field_text name ∷ []

-- A commit is written with its tree's number, and not as a command that stands for itself.
abbrev pub command_fields : Command → List (List ℕ)
command_fields Refs = []
command_fields Status = []
command_fields (RevParse rev) = rev_text rev ∷ []
command_fields (Log rev) = rev_text rev ∷ []
command_fields (Ls rev path) = rev_path_fields rev path
command_fields (Cat rev path) = rev_path_fields rev path
command_fields (Checkout rev name) = rev_name_fields rev name
command_fields (Reset branch commit) = field_text branch ∷ field_text (hex_of commit) ∷ []
command_fields (DropRef branch) = field_text branch ∷ []
command_fields (Prune depth) = number_text depth ∷ []
command_fields Cleanup = []
command_fields (CommitTree branch tree subject body time) = []

abbrev pub command_words : Written → List (List ℕ)
command_words (written.Command command) = spelled (keyword_of command) ∷ command_fields command
command_words (written.Commit line) =
    codes "commit" ∷ field_text line.branch ∷ number_text line.tree ∷ field_text line.subject ∷ field_text line.body ∷ number_text line.time ∷ []

abbrev pub command_line : Written → List ℕ
command_line command = line_text (command_words command)

-- ---- sections

-- the lines of a tree with this number
abbrev pub tree_section : ℕ → Tree → List (List ℕ)
tree_section n items = line_text (codes "tree" ∷ number_text n ∷ []) ∷ (map node_line items ++ codes "end" ∷ [])

-- those of trees, the first of which has this number
abbrev pub tree_sections : ℕ → List Tree → List (List ℕ)
tree_sections n [] = []
tree_sections n (items ∷ trees) = tree_section n items ++ tree_sections (n + 1) trees

abbrev pub lane_section : List Written → List (List ℕ)
lane_section commands = codes "lane" ∷ (map command_line commands ++ codes "end" ∷ [])

abbrev pub script_lines : List Tree → List (List Written) → List (List ℕ)
script_lines trees lanes = header ∷ (tree_sections 0 trees ++ flat_map lane_section lanes)

-- each line with a newline behind it
abbrev pub text_of_lines : List (List ℕ) → List ℕ
text_of_lines [] = []
text_of_lines (line ∷ lines) = line ++ 10 ∷ text_of_lines lines

-- all trees, numbered from 0, and then all lanes
abbrev pub script_text : List Tree → List (List Written) → List ℕ
script_text trees lanes = text_of_lines (script_lines trees lanes)

-- ---- what can be written

-- a mode with these bits above its permissions
pub record HasType (type_bits mode : ℕ) : Type 0 where
  pub low : type_bits ≤ mode
  pub high : mode < type_bits + 4096

-- what a node with this mode may hold
abbrev pub FitsNode : ℕ → Option BodySpec → Type 0
FitsNode mode None = HasType folder_bits mode
FitsNode mode (Some (Given bytes)) = HasType file_bits mode × IsBytes bytes
FitsNode mode (Some (Fill len byte)) = HasType file_bits mode × (len ≤ fill_limit) × (byte < 256)
FitsNode mode (Some (Target target)) = (mode ≡ link_mode) × IsText target × (target ≢ [])

abbrev pub IsPlainXattr : Xattr → Type 0
IsPlainXattr xattr = IsBytes xattr.name × IsBytes xattr.value

pub record IsWritableNode (item : TreeItem) : Type 0 where
  pub path : IsPathText (text_of item.path) item.path
  pub owner : item.meta.uid < 2 ^ 32
  pub group : item.meta.gid < 2 ^ 32
  pub xattrs : All IsPlainXattr item.meta.xattrs
  pub holds : FitsNode item.meta.mode item.body

-- nodes of which each has a lesser path than the next
abbrev pub AscendAll : Tree → Type 0
AscendAll items = (before after : Tree) (a b : TreeItem) → items ≡ before ++ a ∷ b ∷ after → path_cmp a.path b.path ≡ Less

pub record IsWritableTree (items : Tree) : Type 0 where
  pub nodes : All IsWritableNode items
  pub order : AscendAll items

abbrev pub IsWritableRev : Rev → Type 0
IsWritableRev (Ref name) = IsRefName name
IsWritableRev (Commit sum) = IsSum sum

abbrev pub IsWritable : Written → Type 0
IsWritable (written.Command Refs) = Unit {0}
IsWritable (written.Command Status) = Unit {0}
IsWritable (written.Command (RevParse rev)) = IsWritableRev rev
IsWritable (written.Command (Log rev)) = IsWritableRev rev
IsWritable (written.Command (Ls rev path)) = IsWritableRev rev × IsPathText (text_of path) path
IsWritable (written.Command (Cat rev path)) = IsWritableRev rev × IsPathText (text_of path) path
IsWritable (written.Command (Checkout rev name)) = IsWritableRev rev × IsName name
IsWritable (written.Command (Reset branch commit)) = IsRefName branch × IsSum commit
IsWritable (written.Command (DropRef branch)) = IsRefName branch
IsWritable (written.Command (Prune depth)) = depth < 2 ^ 32
IsWritable (written.Command Cleanup) = Unit {0}
IsWritable (written.Command (CommitTree branch tree subject body time)) = ⊥
IsWritable (written.Commit line) = IsRefName line.branch × IsText line.subject × IsText line.body × (line.time < 2 ^ 64)

-- each is the command that is written at its place, and can be written
abbrev pub AreCommands : List Tree → List Written → Commands → Type 0
AreCommands trees [] [] = Unit {0}
AreCommands trees [] (c ∷ commands) = ⊥
AreCommands trees (w ∷ lines) [] = ⊥
AreCommands trees (w ∷ lines) (c ∷ commands) = IsWritable w × Resolves trees w c × AreCommands trees lines commands

-- each has the commands of the lane that is written at its place, and they aren't too many
abbrev pub AreLanes : List Tree → List (List Written) → List Commands → Type 0
AreLanes trees [] [] = Unit {0}
AreLanes trees [] (lane ∷ lanes) = ⊥
AreLanes trees (lines ∷ more) [] = ⊥
AreLanes trees (lines ∷ more) (lane ∷ lanes) = (length lines ≤ command_limit) × AreCommands trees lines lane × AreLanes trees more lanes

-- lanes of these commands are written so, and a script has room for them
pub record IsScriptOf (trees : List Tree) (lines : List (List Written)) (lanes : List Commands) : Type 0 where
  pub trees_are : All IsWritableTree trees
  pub lanes_are : AreLanes trees lines lanes
  pub few : length lines ≤ lane_limit
  pub short : length (script_text trees lines) ≤ script_limit
