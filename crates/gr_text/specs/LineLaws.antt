-- The laws between lines and what they say.
-- Source: docs/FORMATS.md, "Text form".
use Rattle.std.specs.Prelude.{◌≡◌, ℕ, List, Some}
use Rattle.gr_text.specs.Types.{Line, SitedLine, Version}
use Rattle.gr_text.specs.declared.line.Line.TheVariants as lines
use Rattle.gr_record.specs.Prelude.{IsHeader, IsEvent, AreNamesOf, most_items, IsSite}
use Rattle.gr_text.specs.LineText.{line_text, sited_text}
use Rattle.gr_text.specs.LineReading.{line_said, sited_said}

-- a header in range, or an event that some stream of this version may have
abbrev pub IsSaid : Version → Line → Type 0
IsSaid v (lines.Header h) = IsHeader h
IsSaid v (lines.Event e) = IsEvent (most_items v) e × AreNamesOf v e.names

-- what has a line is read from it
abbrev pub TextIsRead : Type 0
TextIsRead = (v : Version) (l : Line) → IsSaid v l → line_said v (line_text l) ≡ Some l

-- what is read from a line has that line
abbrev pub ReadIsText : Type 0
ReadIsText = (v : Version) (bytes : List ℕ) (l : Line) → line_said v bytes ≡ Some l → IsSaid v l × (bytes ≡ line_text l)

-- ---- lines with sites

-- a site with which this line of a stream of this version may end: a header says none
abbrev pub IsSiteOf : Version → Line → ℕ → Type 0
IsSiteOf v (lines.Header h) site = site ≡ 0
IsSiteOf v (lines.Event e) site = IsSite v site

abbrev pub IsSitedSaid : Version → SitedLine → Type 0
IsSitedSaid v l = IsSaid v l.line × IsSiteOf v l.line l.site

abbrev pub SitedTextIsRead : Type 0
SitedTextIsRead = (v : Version) (l : SitedLine) → IsSitedSaid v l → sited_said v (sited_text l) ≡ Some l

abbrev pub SitedReadIsText : Type 0
SitedReadIsText = (v : Version) (bytes : List ℕ) (l : SitedLine) → sited_said v bytes ≡ Some l → IsSitedSaid v l × (bytes ≡ sited_text l)
