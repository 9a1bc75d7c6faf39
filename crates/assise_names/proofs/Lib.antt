mod Common
mod Prefixes
mod HexDigits
mod PathLemmas
mod AscendingNames
mod Spellings
mod FewNames
