-- What searches and commands on pages do to the measures of a state.
pub mod Patterns
pub mod Searches
pub mod PageSearches
pub mod Pages
