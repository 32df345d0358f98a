mod Forms
mod Headers
mod Texts
