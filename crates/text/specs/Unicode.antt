-- Unicode's encoding forms, from the Unicode Standard, section 3.9: table 3-7, "Well-Formed UTF-8 Byte Sequences", and
-- table 3-5, "UTF-16 Bit Distribution", whose surrogates are D800 to DBFF and then DC00 to DFFF. Assumes nothing.
use Rattle.std.specs.Prelude.{List, [], ◌∷◌}
use Rattle.text.specs.Rows.{◌··◌, Row}

-- U+0000..U+007F, U+0080..U+07FF, U+0800..U+0FFF, U+1000..U+CFFF, U+D000..U+D7FF, U+E000..U+FFFF,
-- U+10000..U+3FFFF, U+40000..U+FFFFF, U+100000..U+10FFFF
abbrev pub utf8_rows : List Row
utf8_rows =
    (0x00 ·· 0x7F ∷ []) ∷
    (0xC2 ·· 0xDF ∷ 0x80 ·· 0xBF ∷ []) ∷
    (0xE0 ·· 0xE0 ∷ 0xA0 ·· 0xBF ∷ 0x80 ·· 0xBF ∷ []) ∷
    (0xE1 ·· 0xEC ∷ 0x80 ·· 0xBF ∷ 0x80 ·· 0xBF ∷ []) ∷
    (0xED ·· 0xED ∷ 0x80 ·· 0x9F ∷ 0x80 ·· 0xBF ∷ []) ∷
    (0xEE ·· 0xEF ∷ 0x80 ·· 0xBF ∷ 0x80 ·· 0xBF ∷ []) ∷
    (0xF0 ·· 0xF0 ∷ 0x90 ·· 0xBF ∷ 0x80 ·· 0xBF ∷ 0x80 ·· 0xBF ∷ []) ∷
    (0xF1 ·· 0xF3 ∷ 0x80 ·· 0xBF ∷ 0x80 ·· 0xBF ∷ 0x80 ·· 0xBF ∷ []) ∷
    (0xF4 ·· 0xF4 ∷ 0x80 ·· 0x8F ∷ 0x80 ·· 0xBF ∷ 0x80 ·· 0xBF ∷ []) ∷
    []

-- U+0000..U+D7FF, U+E000..U+FFFF, U+10000..U+10FFFF
abbrev pub wide_rows : List Row
wide_rows =
    (0x0000 ·· 0xD7FF ∷ []) ∷
    (0xE000 ·· 0xFFFF ∷ []) ∷
    (0xD800 ·· 0xDBFF ∷ 0xDC00 ·· 0xDFFF ∷ []) ∷
    []
