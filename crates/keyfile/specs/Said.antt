-- What a line as the code has it says, whose parts are slices of the text.
use Rattle.keyfile.specs.declared.line.Line.{Line as Parts}
use Rattle.keyfile.specs.declared.line.Line.TheVariants as parts
use Rattle.keyfile.specs.Line.{Line}
use Rattle.keyfile.specs.Line.Line.{Blank, Comment, Group, Key}

abbrev pub said : Parts → Line
said parts.Blank = Blank
said (parts.Comment text) = Comment text.now
said (parts.Group name) = Group name.now
said (parts.Key key value) = Key key.now value.now
