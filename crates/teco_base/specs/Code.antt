-- The codes, by the letters that are typed for them.
use Rattle.std.specs.Prelude.{ℕ, List, codes}
use Rattle.teco_base.specs.declared.code.Code.{Code}
use Rattle.teco_base.specs.declared.code.Code.TheVariants.{Arg, Nac, Nca, Div, Pop, Dtb, Iia, Ill, Iqn, Ice, Srh, Tag}
use Rattle.teco_base.specs.declared.code.Code.TheVariants.{Sni, Bni, Pes, Utc, Utm, Nfi, Nfo, Yca, Ofo, Ful, Lim, Mem}
use Rattle.teco_base.specs.declared.code.Code.TheVariants.{Fnf, Inp, Out}

-- a code's three letters
abbrev pub code_name : Code → List ℕ
code_name Arg = codes "ARG"
code_name Nac = codes "NAC"
code_name Nca = codes "NCA"
code_name Div = codes "DIV"
code_name Pop = codes "POP"
code_name Dtb = codes "DTB"
code_name Iia = codes "IIA"
code_name Ill = codes "ILL"
code_name Iqn = codes "IQN"
code_name Ice = codes "ICE"
code_name Srh = codes "SRH"
code_name Tag = codes "TAG"
code_name Sni = codes "SNI"
code_name Bni = codes "BNI"
code_name Pes = codes "PES"
code_name Utc = codes "UTC"
code_name Utm = codes "UTM"
code_name Nfi = codes "NFI"
code_name Nfo = codes "NFO"
code_name Yca = codes "YCA"
code_name Ofo = codes "OFO"
code_name Ful = codes "FUL"
code_name Lim = codes "LIM"
code_name Mem = codes "MEM"
code_name Fnf = codes "FNF"
code_name Inp = codes "INP"
code_name Out = codes "OUT"
