-- What a line is to the rows.
use Rattle.line_parts.specs.Signatures.{name_span}
use Rattle.line.specs.declared.line.Line.{Line}
use Rattle.line.specs.declared.line.Line.TheVariants as kinds
use Rattle.load_texts.specs.declared.texts.Body.TheVariants.{Field, Method}
use Rattle.load_members.specs.declared.role.Role.{Role}
use Rattle.load_members.specs.declared.role.Role.TheVariants.{Class, Member, Neither}

abbrev pub role_of : Line → Role
role_of kinds.Blank = Neither
role_of (kinds.Comment brace) = Neither
role_of (kinds.Class display raw) = Class display
role_of (kinds.Field declared named raw) = Member (record { raw = raw; name = named; body = Field declared })
role_of (kinds.Method m raw) = Member (record { raw = raw; name = name_span m.named; body = Method m })
role_of (kinds.Refused r) = Neither
