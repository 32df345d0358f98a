-- What is printed of replies.
use Rattle.std.specs.Prelude.{◌+◌, ℕ, false, List, [], ◌∷◌, ◌++◌, length, codes, Option, Some, None}
use Rattle.std.specs.List.{flat_map}
use Rattle.std.specs.Fmt.{decimal, digits}
use Rattle.ost_types.specs.Path.{Path, text_of}
use Rattle.ost_types.specs.Csum.{hex_of}
use Rattle.boot_model.specs.declared.item.DepId.{DepId}
use Rattle.script.specs.Field.{escaped, field_text}
use Rattle.script.specs.declared.answer.Answer.{Answer}
use Rattle.script.specs.declared.answer.Answer.TheVariants.{Nothing, Refs, Status, Commit, Log, Ls, Content, Pruned, NoRef, NoCommit, Partial, NoPath, NotFile, DestExists, RefMoved, RefClash, BadTree, TooMany, NoMemory, DiskFault, Halted, Outside}
use Rattle.script.specs.declared.answer.Reply.{Reply}
use Rattle.script.specs.declared.rows.LogRow.{LogRow}
use Rattle.script.specs.declared.rows.LsRow.{LsRow}
use Rattle.script.specs.declared.rows.LsRow.TheVariants.{Folder, Leaf}
use Rattle.script.specs.declared.rows.StatusRow.{StatusRow}

-- how many rows there are
abbrev pub count_text : ℕ → List ℕ
count_text count = codes "ok " ++ decimal count

-- and each behind it
abbrev pub rows_text : {X : Type 0} → (X → List ℕ) → List X → List ℕ
rows_text row rows = count_text (length rows) ++ flat_map row rows

-- a ref and its commit on a line of their own
abbrev pub ref_row : List ℕ × List ℕ → List ℕ
ref_row row = codes "\n " ++ (row.0 ++ (32 ∷ hex_of row.1))

-- a commit of a log: its time is in seconds since 1970
abbrev pub log_row : LogRow → List ℕ
log_row row = codes "\n " ++ (hex_of row.commit ++ (32 ∷ (decimal row.time ++ (32 ∷ field_text row.subject))))

abbrev pub octal : ℕ → List ℕ
octal n = digits 8 false n

-- a folder of a tree, with its permissions in octal digits
abbrev pub folder_row : ℕ → ℕ → ℕ → Path → List ℕ
folder_row uid gid mode path = codes "\n folder " ++ (decimal uid ++ (32 ∷ (decimal gid ++ (32 ∷ (octal mode ++ (32 ∷ escaped (text_of path)))))))

-- a file or a link, by the name of its object
abbrev pub leaf_row : List ℕ → Path → List ℕ
leaf_row file path = codes "\n leaf " ++ (hex_of file ++ (32 ∷ escaped (text_of path)))

abbrev pub ls_row : LsRow → List ℕ
ls_row (Folder uid gid mode path) = folder_row uid gid mode path
ls_row (Leaf file path) = leaf_row file path

-- a deployment: its stateroot, its commit, and behind a dot (46) its serial number
abbrev pub deployment_text : DepId → List ℕ
deployment_text id = id.os ++ (32 ∷ (hex_of id.commit ++ (46 ∷ decimal id.serial)))

-- the lane that uses it, if any does
abbrev pub lane_text : Option ℕ → List ℕ
lane_text None = codes "-"
lane_text (Some lane) = decimal lane

-- a deployment, with its place in the order of booting
abbrev pub status_row : ℕ → StatusRow → List ℕ
status_row index row = codes "\n " ++ (decimal index ++ (32 ∷ (deployment_text row.id ++ (32 ∷ lane_text row.lane))))

-- rows, the first of them with this number
unfoldable pub status_rows : ℕ → List StatusRow → List ℕ
status_rows index [] = []
status_rows index (row ∷ rows) = status_row index row ++ status_rows (index + 1) rows

abbrev pub value_text : Option (List ℕ) → List ℕ
value_text None = codes "none"
value_text (Some sum) = hex_of sum

-- how many objects stay, and how many were removed
abbrev pub pruned_text : ℕ → ℕ → List ℕ
pruned_text kept removed = codes "ok " ++ (decimal kept ++ (32 ∷ decimal removed))

-- an answer behind the two numbers of its line
abbrev pub answer_text : Answer → List ℕ
answer_text Nothing = codes "ok"
answer_text (Refs rows) = rows_text ref_row rows.items
answer_text (Status rows) = count_text (length rows.items) ++ status_rows 0 rows.items
answer_text (Commit sum) = codes "ok " ++ hex_of sum
answer_text (Log rows) = rows_text log_row rows.items
answer_text (Ls rows) = rows_text ls_row rows.items
answer_text (Content bytes) = codes "ok " ++ field_text bytes
answer_text (Pruned kept removed) = pruned_text kept removed
answer_text NoRef = codes "refused NoRef"
answer_text (NoCommit sum) = codes "refused NoCommit " ++ hex_of sum
answer_text (Partial sum) = codes "refused Partial " ++ hex_of sum
answer_text (NoPath path) = codes "refused NoPath " ++ escaped (text_of path)
answer_text (NotFile path) = codes "refused NotFile " ++ escaped (text_of path)
answer_text (DestExists path) = codes "refused DestExists " ++ escaped (text_of path)
answer_text (RefMoved seen now) = codes "refused RefMoved " ++ (value_text seen ++ (32 ∷ value_text now))
answer_text (RefClash name) = codes "refused RefClash " ++ name
answer_text (BadTree path) = codes "refused BadTree " ++ escaped (text_of path)
answer_text (TooMany count) = codes "refused TooMany " ++ decimal count
answer_text NoMemory = codes "fault NoMemory"
answer_text DiskFault = codes "fault DiskFault"
answer_text (Halted count) = codes "fault Halted " ++ decimal count
answer_text (Outside path) = codes "fault Outside " ++ escaped (text_of path)

-- a reply's lines: its lane, its command and its answer
abbrev pub reply_line : ℕ → ℕ → Answer → List ℕ
reply_line lane command answer = decimal lane ++ (32 ∷ (decimal command ++ (32 ∷ (answer_text answer ++ 10 ∷ []))))

-- the lines of a lane's replies, the first of them with this number
unfoldable pub lane_lines : ℕ → ℕ → List Reply → List ℕ
lane_lines lane command [] = []
lane_lines lane command (reply ∷ replies) = reply_line lane command reply.answer ++ lane_lines lane (command + 1) replies

-- the lines of all lanes, the first of them with this number
unfoldable pub lines_from : ℕ → List (List Reply) → List ℕ
lines_from lane [] = []
lines_from lane (replies ∷ lanes) = lane_lines lane 0 replies ++ lines_from (lane + 1) lanes

abbrev pub replies_text : List (List Reply) → List ℕ
replies_text lanes = lines_from 0 lanes
