mod Letters
mod Search
